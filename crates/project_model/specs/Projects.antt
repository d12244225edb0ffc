-- Projects: sheets, objects and symbols as finite maps (own).
use Rattle.std.specs.Prelude.{ℕ, Bool, List, filter}
use Rattle.std.specs.FinMap as map
use Rattle.std.specs.Map.{keys_of}
use Rattle.std.specs.Str.{bytes_eq}
use Rattle.std.specs.Ordering.{nat_cmp}
use Rattle.std.specs.Cmp.Lexicographic.{slice_cmp}
use Rattle.project_model.specs.declared.change.Placed.{Placed}
use Rattle.geda_model.specs.Sheets.{HeadData, SymbolData}

-- version lines by name of sheet, objects by id, symbols by name, and the id of the next object
pub record ProjectData : Type 0 where
  pub sheets : map.FinMap (slice_cmp nat_cmp) HeadData
  pub objects : map.FinMap nat_cmp Placed
  pub symbols : map.FinMap (slice_cmp nat_cmp) SymbolData
  pub next_id : ℕ

-- how many things, and how many names of sheets and symbols among them, a project takes without
-- memory
pub record Spare : Type 0 where
  pub things : ℕ
  pub names : ℕ

-- a project, and the room that it has for changes
pub record ProjectView : Type 0 where
  pub contents : ProjectData
  pub spare : Spare

-- the empty project
abbrev pub empty_project : ProjectData
empty_project =
    record { sheets = map.empty; objects = map.empty; symbols = map.empty; next_id = 0 }

-- the object of this row stands in the sheet
abbrev pub is_on : List ℕ → ℕ × Placed → Bool
is_on name row = bytes_eq row.1.sheet name

-- the ids of a sheet's objects, rising
abbrev pub ids_on : ProjectData → List ℕ → List ℕ
ids_on project name = keys_of (filter (is_on name) (map.entries project.objects))
