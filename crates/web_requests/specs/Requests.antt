-- Which request a message is (own).
use Rattle.std.specs.Prelude.{◌≡◌, ℕ, Bool, true, false, if◌then◌else◌, List, Option, Some, None, codes}
use Rattle.std.specs.Str.{bytes_eq}
use Rattle.geda_model.specs.Names.{is_name}
use Rattle.edit_json.specs.Documents.{IsEntryText, body_fault}
use Rattle.reports.specs.declared.what.What.TheVariants as shows
use Rattle.web_requests.specs.declared.query.Least.{Least}
use Rattle.web_requests.specs.declared.query.Least.TheVariants.{Absent, At, Bad}
use Rattle.web_requests.specs.declared.request.Request.{Request}
use Rattle.web_requests.specs.declared.request.Request.TheVariants.{Edit, Report, Fixed}
use Rattle.web_requests.specs.declared.request.FixedRequest.TheVariants.{BadEdit, BadQuery, NoRoute, NotAllowed, NoSheet, NoSymbol}
use Rattle.web_requests.specs.declared.route.Route.{Route}
use Rattle.web_requests.specs.declared.route.Route.TheVariants as routes
use Rattle.web_requests.specs.Paths.{path_of_target, query_of_target, behind, route_at, method_of, name_of_method}
use Rattle.web_requests.specs.Queries.{least_in_query}

-- the body of an edit is this entry, or has this pointer as its first fault
abbrev pub IsEditRequest : List ℕ → Request → Type 0
IsEditRequest body (Edit entry) = (body_fault body ≡ None) × IsEntryText body entry
IsEditRequest body (Fixed (BadEdit pointer)) = body_fault body ≡ Some pointer
IsEditRequest body _ = ⊥

-- the name that a text is, if it is one
abbrev pub named_of : List ℕ → Option (List ℕ)
named_of text = if is_name text then Some text else None

-- the request for a sheet, where its name is one
abbrev pub sheet_shown : Option ℕ → Option (List ℕ) → Request
sheet_shown least (Some name) = Report least (shows.Sheet name)
sheet_shown least None = Fixed NoSheet

-- the same of a symbol
abbrev pub symbol_shown : Option ℕ → Option (List ℕ) → Request
symbol_shown least (Some name) = Report least (shows.Symbol name)
symbol_shown least None = Fixed NoSymbol

-- the same of the objects of a sheet
abbrev pub objects_shown : Option ℕ → Option (List ℕ) → Request
objects_shown least (Some name) = Report least (shows.Objects name)
objects_shown least None = Fixed NoSheet

-- which report a route and a path ask for; the route of edits asks for none
abbrev pub report_of : Option ℕ → Route → List ℕ → Request
report_of least (routes.Net form) path = Report least (shows.Net form)
report_of least routes.Drc path = Report least shows.Drc
report_of least routes.Sheets path = Report least shows.Sheets
report_of least routes.Sheet path =
    sheet_shown least (named_of (behind (codes "/sheets/") path))
report_of least routes.Symbol path =
    symbol_shown least (named_of (behind (codes "/symbols/") path))
report_of least routes.Objects path =
    objects_shown least (named_of (behind (codes "/objects/") path))
report_of least routes.Edits path = Fixed NoRoute

-- the same, given what the query says of `min`
abbrev pub queried : Least → Route → List ℕ → Request
queried Absent route path = report_of None route path
queried (At least) route path = report_of (Some least) route path
queried Bad route path = Fixed BadQuery

-- what is asked on a route by its own method: a path, a query and a body
abbrev pub IsAsked : Route → List ℕ → List ℕ → List ℕ → Request → Type 0
IsAsked routes.Edits path query body request = IsEditRequest body request
IsAsked route path query body request = request ≡ queried (least_in_query query) route path

-- the same on a route, where its method is asked for, and where another is
abbrev pub IsByMethod : Bool → Route → List ℕ → List ℕ → List ℕ → Request → Type 0
IsByMethod true route path query body request = IsAsked route path query body request
IsByMethod false route path query body request =
    request ≡ Fixed (NotAllowed (method_of route))

-- the method is that of the route
abbrev pub is_allowed : List ℕ → Route → Bool
is_allowed method route = bytes_eq method (name_of_method (method_of route))

-- what is asked by a method, a path, a query and a body, where the path has this route
abbrev pub IsOnRoute :
    List ℕ → List ℕ → List ℕ → List ℕ → Option Route → Request → Type 0
IsOnRoute method path query body None request = request ≡ Fixed NoRoute
IsOnRoute method path query body (Some route) request =
    IsByMethod (is_allowed method route) route path query body request

-- The message of this method, target and body is this request: its route decides, then its method,
-- then its query or its body, then the name in its path.
abbrev pub IsRequest : List ℕ → List ℕ → List ℕ → Request → Type 0
IsRequest method target body request =
    IsOnRoute method (path_of_target target) (query_of_target target) body
    (route_at (path_of_target target)) request
