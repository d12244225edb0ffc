-- What the parts of reading a request do.
use Rattle.std.specs.Prelude.{ℕ, Bool, false, if◌then◌else◌, List, [], ◌∷◌, Result, Ok, Err, codes, is_none}
use Rattle.std.specs.Str.{bytes_eq}
use Rattle.matchit.specs.Rows.{RowsOf}
use Rattle.matchit.specs.Order.{placed}
use Rattle.matchit.specs.Route.{Scan, parse_route}
use Rattle.matchit.specs.Router.{RouteOf, nearest, route_from}
use Rattle.matchit.specs.declared.error.InsertError.{InsertError}
use Rattle.web_requests.specs.declared.query.Least.{Least}
use Rattle.web_requests.specs.declared.query.Least.TheVariants.{Absent, At, Bad}
use Rattle.web_requests.specs.declared.route.Route.{Route}
use Rattle.web_requests.specs.Queries.{least_said, number_said}

-- what is said once these values follow
abbrev pub said_on : Least → List (List ℕ) → Least
said_on Absent values = least_said values
said_on (At n) [] = At n
said_on (At n) (value ∷ values) = Bad
said_on Bad values = Bad

-- what is said with one more value of `min`
abbrev pub said_next : Least → List ℕ → Least
said_next Absent value = number_said value
said_next (At n) value = Bad
said_next Bad value = Bad

-- the same with one more pair
abbrev pub said_with : Least → List ℕ → List ℕ → Least
said_with least name value =
    if bytes_eq name (codes "min") then said_next least value else least

-- no row conflicts with what a route's text gives
abbrev pub is_free_of : Result Scan InsertError → RowsOf (RouteOf Route) → Bool
is_free_of (Ok scan) rows = is_none (nearest scan.pattern rows)
is_free_of (Err e) rows = false

-- the text is a route's, and no row conflicts with it
abbrev pub is_free : List ℕ → RowsOf (RouteOf Route) → Bool
is_free text rows = is_free_of (parse_route text) rows

-- the rows with the route of what its text gives in its place
abbrev pub with_scan : Result Scan InsertError → Route → RowsOf (RouteOf Route)
    → RowsOf (RouteOf Route)
with_scan (Ok scan) route rows = placed (scan.pattern, route_from scan route) rows
with_scan (Err e) route rows = rows

-- the rows with a route in its place
abbrev pub with_route : List ℕ → Route → RowsOf (RouteOf Route) → RowsOf (RouteOf Route)
with_route text route rows = with_scan (parse_route text) route rows
