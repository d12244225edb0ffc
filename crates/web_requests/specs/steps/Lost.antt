-- The reply to an edit that could not be kept, in three pieces.
use Rattle.std.specs.Prelude.{ℕ, Bool, List, [], ◌∷◌, ◌++◌, codes}
use Rattle.web_requests.specs.Texts.{close_lines, header, line}

-- what stands before the front
abbrev pub lost_start : List ℕ
lost_start =
    codes "HTTP/1.1 507 Insufficient Storage\r\nContent-Type: application/json\r\nFront: "

-- what stands behind its line, with this as the length, and before the body
abbrev pub lost_last : List ℕ → Bool → List ℕ
lost_last size closing =
    (close_lines closing ++ header (codes "Content-Length") size) ++ line []

-- what stands behind the front
abbrev pub lost_end : Bool → List ℕ
lost_end closing =
    13 ∷ 10 ∷ [] ++ close_lines closing ++ header (codes "Content-Length") (codes "23")
    ++ line [] ++ codes "{\"fault\":\"KeeperFault\"}"
