-- The path and the query of a target, and the routes of paths (own). Paths match as they stand.
use Rattle.std.specs.Prelude.{ℕ, Bool, false, not, ◌==◌, if◌then◌else◌, List, [], ◌∷◌, length, take, drop, Option, Some, None, codes}
use Rattle.std.specs.List.{list_any, before_first, after_first}
use Rattle.std.specs.Str.{bytes_eq}
use Rattle.net_list.specs.declared.form.Form.TheVariants as forms
use Rattle.web_requests.specs.declared.request.Allowed.{Allowed}
use Rattle.web_requests.specs.declared.request.Allowed.TheVariants.{Get, Post}
use Rattle.web_requests.specs.declared.route.Route.{Route}
use Rattle.web_requests.specs.declared.route.Route.TheVariants.{Edits, Net, Drc, Sheets, Sheet, Symbol, Objects}

-- the byte `?`
abbrev pub is_question : ℕ → Bool
is_question b = b == 63

-- the target up to its first `?`
abbrev pub path_of_target : List ℕ → List ℕ
path_of_target target = before_first is_question target

-- what is behind it
abbrev pub query_of_target : List ℕ → List ℕ
query_of_target target = after_first is_question target

-- the byte `/`
abbrev pub is_path_separator : ℕ → Bool
is_path_separator b = b == 47

-- what is behind this prefix, or nothing
abbrev pub behind : List ℕ → List ℕ → List ℕ
behind prefix path =
    if bytes_eq (take (length prefix) path) prefix then drop (length prefix) path else []

-- one or more bytes without `/`
abbrev pub is_segment : List ℕ → Bool
is_segment [] = false
is_segment (b ∷ bytes) = not (list_any is_path_separator (b ∷ bytes))

-- the first route, or else the second
abbrev pub first_route : Option Route → Option Route → Option Route
first_route (Some route) other = Some route
first_route None other = other

-- the route of a path that is this text
abbrev pub fixed : List ℕ → Route → List ℕ → Option Route
fixed text route path = if bytes_eq path text then Some route else None

-- the route of a path that is this prefix and one part more
abbrev pub named_route : List ℕ → Route → List ℕ → Option Route
named_route prefix route path = if is_segment (behind prefix path) then Some route else None

-- the route of a path, as it stands
abbrev pub route_at : List ℕ → Option Route
route_at path =
    first_route (fixed (codes "/drc") Drc path)
    (first_route (fixed (codes "/edits") Edits path)
    (first_route (fixed (codes "/netlist/bom") (Net forms.Bom) path)
    (first_route (fixed (codes "/netlist/list") (Net forms.List) path)
    (first_route (fixed (codes "/netlist/pcb") (Net forms.Pcb) path)
    (first_route (fixed (codes "/netlist/tango") (Net forms.Tango) path)
    (first_route (named_route (codes "/objects/") Objects path)
    (first_route (named_route (codes "/sheets/") Sheet path)
    (first_route (fixed (codes "/sheets") Sheets path)
    (first_route (named_route (codes "/symbols/") Symbol path) None)))))))))

-- the one method of a route
abbrev pub method_of : Route → Allowed
method_of Edits = Post
method_of (Net form) = Get
method_of Drc = Get
method_of Sheets = Get
method_of Sheet = Get
method_of Symbol = Get
method_of Objects = Get

-- how a method is spelled
abbrev pub name_of_method : Allowed → List ℕ
name_of_method Get = codes "GET"
name_of_method Post = codes "POST"
