-- The rows of matchit's table of the routes (own).
use Rattle.std.specs.Prelude.{ℕ, ◌+◌, List, [], ◌∷◌, ◌++◌, length, codes}
use Rattle.matchit.specs.Rows.{RowsOf, param_token}
use Rattle.matchit.specs.Router.{RouteOf}
use Rattle.net_list.specs.declared.form.Form.TheVariants as forms
use Rattle.web_requests.specs.declared.route.Route.{Route}
use Rattle.web_requests.specs.declared.route.Route.TheVariants.{Edits, Net, Drc, Sheets, Sheet, Symbol, Objects}

-- a row: the tokens of its path, and its route
abbrev pub RouteRow : Type 0
RouteRow = List ℕ × RouteOf Route

-- the row of a path
abbrev pub path_row : List ℕ → Route → RouteRow
path_row text route = (text, record { pattern = text; text = text; names = []; value = route })

-- the row of a prefix and a name behind it
abbrev pub name_row : List ℕ → Route → RouteRow
name_row prefix route = (
  prefix ++ param_token ∷ [],
  record {
    pattern = prefix ++ param_token ∷ [];
    text = prefix ++ codes "{name}";
    names = (length prefix + 1, length prefix + 5) ∷ [];
    value = route;
  },
)

-- the rows with no name in them
abbrev pub fixed_rows : RowsOf (RouteOf Route)
fixed_rows =
    path_row (codes "/drc") Drc
    ∷ path_row (codes "/edits") Edits
    ∷ path_row (codes "/netlist/bom") (Net forms.Bom)
    ∷ path_row (codes "/netlist/list") (Net forms.List)
    ∷ path_row (codes "/netlist/pcb") (Net forms.Pcb)
    ∷ path_row (codes "/netlist/tango") (Net forms.Tango)
    ∷ path_row (codes "/sheets") Sheets
    ∷ []

-- all rows
abbrev pub route_rows : RowsOf (RouteOf Route)
route_rows =
    path_row (codes "/drc") Drc
    ∷ path_row (codes "/edits") Edits
    ∷ path_row (codes "/netlist/bom") (Net forms.Bom)
    ∷ path_row (codes "/netlist/list") (Net forms.List)
    ∷ path_row (codes "/netlist/pcb") (Net forms.Pcb)
    ∷ path_row (codes "/netlist/tango") (Net forms.Tango)
    ∷ name_row (codes "/objects/") Objects
    ∷ name_row (codes "/sheets/") Sheet
    ∷ path_row (codes "/sheets") Sheets
    ∷ name_row (codes "/symbols/") Symbol
    ∷ []
