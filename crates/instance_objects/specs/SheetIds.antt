-- The ids of the objects of each sheet, as a table (own).
use Rattle.std.specs.Prelude.{◌≡◌, ℕ, List, []}
use Rattle.std.specs.BTreeMap.{BTreeMap, get}
use Rattle.std.specs.Option.{unwrap_or}
use Rattle.project_model.specs.Projects.{ProjectData, ids_on}
use Rattle.geda_defs.specs.Order.{by_bytes}

-- ids by sheet
abbrev pub IdsBySheet : Type 0
IdsBySheet = BTreeMap (List ℕ) (List ℕ)

-- the ids of a sheet; none where it is not there
abbrev pub ids_at : IdsBySheet → List ℕ → List ℕ
ids_at table name = unwrap_or (get by_bytes table name) []

-- the table has the ids of a project
abbrev pub AreIdsBySheet : ProjectData → IdsBySheet → Type 0
AreIdsBySheet p table = (name : List ℕ) → ids_at table name ≡ ids_on p name
