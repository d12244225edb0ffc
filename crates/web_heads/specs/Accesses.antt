-- The options of a server that say which heads are let in, and as whom a message speaks (own). A
-- host and its port: RFC 9110, section 7.2, and RFC 3986, section 3.2.
use Rattle.std.specs.Prelude.{ℕ, Bool, true, false, ◌&&◌, ◌||◌, ◌==◌, ◌-◌, nat_le, nat_lt, if◌then◌else◌, List, [], ◌∷◌, length, slice_index, Option, Some, None, option_to_list, codes}
use Rattle.std.specs.List.{list_all, list_any}
use Rattle.std.specs.Char.{is_ascii_digit, is_ascii_graphic}
use Rattle.std.specs.Str.{bytes_eq, str_eq_ignore_ascii_case}
use Rattle.httparse.specs.Grammar.{is_token}

-- the hosts that are answered beside the local ones: where there are none, all heads are let in;
-- and the name of the header that says as whom a message speaks, if one does
pub record AccessData : Type 0 where
  pub hosts : List (List ℕ)
  pub user : Option (List ℕ)

-- the options with these parts
abbrev pub access_with : List (List ℕ) → Option (List ℕ) → AccessData
access_with hosts user = record { hosts = hosts; user = user }

-- without options
abbrev pub open_access : AccessData
open_access = access_with [] None

-- `:` and digits
abbrev pub is_port_end : List ℕ → Bool
is_port_end [] = false
is_port_end (byte ∷ bytes) = byte == 58 && list_all is_ascii_digit bytes

-- the host in a value of Host: what stands before `:` and digits at its end
abbrev pub host_of : List ℕ → List ℕ
host_of [] = []
host_of (byte ∷ bytes) = if is_port_end (byte ∷ bytes) then [] else byte ∷ host_of bytes

-- numbers with dots between them, where so many dots are still to come, and the number that is read
-- has a digit or has none yet
abbrev pub are_numbers : ℕ → Bool → List ℕ → Bool
are_numbers dots begun [] = begun && dots == 0
are_numbers dots begun (byte ∷ bytes) =
    if is_ascii_digit byte then are_numbers dots true bytes
    else byte == 46 && (begun && (nat_lt 0 dots && are_numbers (dots - 1) false bytes))

-- four numbers and dots
abbrev pub is_address : List ℕ → Bool
is_address host = are_numbers 3 false host

-- what stands in `[ ]`
abbrev pub is_bracketed : List ℕ → Bool
is_bracketed host = slice_index host 0 == 91 && slice_index host (length host - 1) == 93

-- a host that is no name of another machine: none at all, an address, or `localhost` in any case
abbrev pub is_local : List ℕ → Bool
is_local host =
    length host == 0 || (is_address host || (is_bracketed host
    || str_eq_ignore_ascii_case host (codes "localhost")))

-- the host is local, or one of these, without regard to ASCII case
abbrev pub is_own_host : List (List ℕ) → List ℕ → Bool
is_own_host hosts host = is_local host || list_any (str_eq_ignore_ascii_case host) hosts

-- an entry of this session may come in a message that speaks as anyone, or as the one user whom its
-- head names, or as nobody
abbrev pub speaks_as : Option (Option (List ℕ)) → List ℕ → Bool
speaks_as None session = true
speaks_as (Some None) session = false
speaks_as (Some (Some user)) session = bytes_eq user session

-- a host that a head may name: ASCII characters that are seen, at least one
abbrev pub is_host_text : List ℕ → Bool
is_host_text text = nat_le 1 (length text) && list_all is_ascii_graphic text

-- the options say something of heads that there may be: each host is such a text, and the user's
-- header has a name
abbrev pub is_access : AccessData → Bool
is_access access =
    list_all is_host_text access.hosts && list_all is_token (option_to_list access.user)

-- the options, where they say so
abbrev pub access_of : List (List ℕ) → Option (List ℕ) → Option AccessData
access_of hosts user =
    if is_access (access_with hosts user) then Some (access_with hosts user) else None
