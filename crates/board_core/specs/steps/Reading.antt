-- Steps of the code; no public clause cites them.
-- Groups that are read from those that are kept (own).
use Rattle.std.specs.Prelude.{◌≡◌, ⊤, List, [], ◌∷◌, IsSome}
use Rattle.std.specs.FinMap.{get}
use Rattle.geda_geom.specs.declared.conductor.Key.{Key}
use Rattle.net_flood.specs.Grouping.{IsLeast}
use Rattle.group_runs.specs.Runs.{BySheet, Coming}
use Rattle.group_runs.specs.Sheets.{IsKept, Rows, kept_at, row_at}
use Rattle.board_core.specs.steps.Members.{In}

-- the group of each of these conductors is kept
abbrev pub CanRead : Rows → List Coming → Type 0
CanRead rows cs = (c : Coming) → In c cs
    → IsKept (row_at rows c.0) × IsSome (get (kept_at rows c.0) c.1.0)

-- the key of each conductor with the least key of its group
abbrev pub LeastRows : BySheet → List Coming → List (Key × Key) → Type 0
LeastRows at [] [] = ⊤
LeastRows at (c ∷ cs) (row ∷ rows) =
    (row.0 ≡ c.1.0) × IsLeast (at c.0) c.1.0 row.1 × LeastRows at cs rows
LeastRows at cs rows = ⊥
