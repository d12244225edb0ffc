-- The text of a reply (RFC 9112, section 4), byte for byte.
use Rattle.std.specs.Prelude.{ℕ, Bool, true, false, List, [], ◌∷◌, ◌++◌, length, Option, Some, None, unwrap_or, codes, decimal}
use Rattle.http.specs.StatusCode.{code_digits, reason_phrase}
use Rattle.web_requests.specs.declared.request.Allowed.{Allowed}
use Rattle.web_requests.specs.Paths.{name_of_method}
use Rattle.web_requests.specs.declared.head.Content.{Content}
use Rattle.web_requests.specs.declared.head.Content.TheVariants.{Text, Json}
use Rattle.web_requests.specs.declared.head.Head.{Head}

-- a line and its end
abbrev pub line : List ℕ → List ℕ
line text = text ++ 13 ∷ 10 ∷ []

-- the line of a header
abbrev pub header : List ℕ → List ℕ → List ℕ
header name value = line (name ++ codes ": " ++ value)

-- the phrase that `http` has for a status
abbrev pub phrase : ℕ → List ℕ
phrase status = unwrap_or (reason_phrase status) []

-- the first line
unfoldable pub status_line : ℕ → List ℕ
status_line status =
    line (codes "HTTP/1.1 " ++ code_digits status ++ codes " " ++ phrase status)

-- the value of Content-Type
abbrev pub content_type : Content → List ℕ
content_type Text = codes "text/plain; charset=utf-8"
content_type Json = codes "application/json"

-- the line that tells the length of the history on which the reply stands, if it stands on one
abbrev pub front_lines : Option ℕ → List ℕ
front_lines (Some front) = header (codes "Front") (decimal front)
front_lines None = []

-- the line that tells the one method of a route, where it is told
abbrev pub allow_lines : Option Allowed → List ℕ
allow_lines (Some allowed) = header (codes "Allow") (name_of_method allowed)
allow_lines None = []

-- the line that tells that the connection closes, where it does
abbrev pub close_lines : Bool → List ℕ
close_lines true = header (codes "Connection") (codes "close")
close_lines false = []

-- the lines as far as Front
abbrev pub first_lines : Head → List ℕ
first_lines head =
    status_line head.status ++ header (codes "Content-Type") (content_type head.content)
    ++ front_lines head.front

-- the other lines, for a body of so many bytes
abbrev pub last_lines : Head → ℕ → List ℕ
last_lines head size =
    allow_lines head.allowed ++ close_lines head.closing
    ++ header (codes "Content-Length") (decimal size) ++ line []

-- the lines, a blank one, and the body
unfoldable pub reply_text : Head → List ℕ → List ℕ
reply_text head body = first_lines head ++ last_lines head (length body) ++ body
