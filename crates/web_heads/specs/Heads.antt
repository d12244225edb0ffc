-- What a head says of its message (RFC 9112, sections 6 and 9.6): the length of its body, whether
-- the connection closes after it, whether it is foreign, and as whom it speaks (the last two: own).
use Rattle.std.specs.Prelude.{ℕ, Bool, true, false, ◌&&◌, ◌||◌, ◌==◌, nat_le, if◌then◌else◌, List, [], ◌∷◌, map, Option, Some, None, option_map, Result, Ok, Err, codes}
use Rattle.std.specs.List.{list_all, list_any, filter}
use Rattle.std.specs.Str.{bytes_eq, str_eq_ignore_ascii_case}
use Rattle.std.specs.Str.Parse.{digits_value}
use Rattle.httparse.specs.Grammar.{RequestHead}
use Rattle.httparse.specs.Spans.{name_and_value}
use Rattle.web_heads.specs.Accesses.{AccessData, host_of, is_own_host}
use Rattle.web_heads.specs.Digits.{is_short_number}
use Rattle.web_heads.specs.declared.cut_end.CutEnd.{CutEnd}
use Rattle.web_heads.specs.declared.cut_end.CutEnd.TheVariants.{BadHead, Foreign, LargeBody, Unsupported}

-- a name and a value, without the blanks around it
abbrev pub Header : Type 0
Header = List ℕ × List ℕ

-- the headers of a head
abbrev pub headers_of : RequestHead → List Header
headers_of head = map name_and_value head.fields

-- the header has this name, without regard to ASCII case
abbrev pub is_named : List ℕ → Header → Bool
is_named name header = str_eq_ignore_ascii_case header.0 name

-- the values of the headers of this name, in order
abbrev pub values_named : List ℕ → List Header → List (List ℕ)
values_named name headers = map (λ header. header.1) (filter (is_named name) headers)

-- at most 4,194,304 bytes
abbrev pub length_of : ℕ → Result ℕ CutEnd
length_of n = if nat_le n 4194304 then Ok n else Err LargeBody

-- what the values of Content-Length say: the first is a number, and all others are the same bytes
abbrev pub length_said : List (List ℕ) → Result ℕ CutEnd
length_said [] = Ok 0
length_said (value ∷ values) =
    if is_short_number value && list_all (bytes_eq value) values
    then length_of (digits_value 10 value)
    else Err BadHead

-- how many bytes of body follow the head, or why no message comes of it
abbrev pub body_length : List Header → Result ℕ CutEnd
body_length headers =
    if list_any (is_named (codes "transfer-encoding")) headers
    then Err Unsupported
    else length_said (values_named (codes "content-length") headers)

-- the values of Host name another host than these and the local ones: several do, whatever they are
abbrev pub is_other_host : List (List ℕ) → List (List ℕ) → Bool
is_other_host hosts [] = false
is_other_host hosts (value ∷ []) = if is_own_host hosts (host_of value) then false else true
is_other_host hosts values = true

-- the head comes from a page of elsewhere or names another host, where these are answered
abbrev pub is_foreign : List (List ℕ) → List Header → Bool
is_foreign [] headers = false
is_foreign hosts headers =
    list_any (is_named (codes "origin")) headers
    || is_other_host hosts (values_named (codes "host") headers)

-- the same where these hosts are answered: behind Unsupported a foreign head is refused
abbrev pub length_among : List (List ℕ) → List Header → Result ℕ CutEnd
length_among hosts headers =
    if list_any (is_named (codes "transfer-encoding")) headers
    then Err Unsupported
    else (if is_foreign hosts headers
    then Err Foreign
    else length_said (values_named (codes "content-length") headers))

-- the same by the options of a server
abbrev pub length_by : AccessData → List Header → Result ℕ CutEnd
length_by access headers = length_among access.hosts headers

-- the one value, where there is just one
abbrev pub only : List (List ℕ) → Option (List ℕ)
only (value ∷ []) = Some value
only values = None

-- as whom the head speaks: as anyone where no header is to say it, else as the one user whom the
-- header of this name names, or as nobody
abbrev pub user_named : Option (List ℕ) → List Header → Option (Option (List ℕ))
user_named name headers = option_map (λ n. only (values_named n headers)) name

-- the same by the options of a server
abbrev pub speaker : AccessData → List Header → Option (Option (List ℕ))
speaker access headers = user_named access.user headers

-- the value is `close`, without regard to ASCII case
abbrev pub is_close : List ℕ → Bool
is_close value = str_eq_ignore_ascii_case value (codes "close")

-- the version is 1.0, or a header is `Connection: close`
abbrev pub says_close : ℕ → List Header → Bool
says_close minor headers =
    minor == 0 || list_any is_close (values_named (codes "connection") headers)
