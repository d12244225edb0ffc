-- How the table grows by one object (own).
use Rattle.std.specs.Prelude.{◌≡◌, ℕ, ◌+◌, ◌*◌, ◌≤◌, List, [], ◌++◌, All, map}
use Rattle.std.specs.Prelude.{Bool, false, Option, None, Some}
use Rattle.std.specs.Str.{bytes_eq}
use Rattle.std.specs.Option.{option_to_list}
use Rattle.std.specs.FinMap.{keys}
use Rattle.project_model.specs.declared.change.Placed.{Placed}
use Rattle.geda_model.specs.Sheets.{ObjectData}
use Rattle.project_model.specs.Projects.{ProjectData}
use Rattle.hierarchy.specs.SheetTable.{TableSheetData, hierarchical, object_weight, sheet_of}

-- a sheet with one more object on it
abbrev pub with_object : ProjectData → ℕ → ObjectData → TableSheetData → TableSheetData
with_object p id o sheet = record {
  name = sheet.name;
  components = sheet.components ++ option_to_list (hierarchical p id o);
  weight = sheet.weight + object_weight p o;
}

-- the table, by the objects of these rows alone
abbrev pub IsTableOf : ProjectData → List (ℕ × Placed) → List TableSheetData → Type 0
IsTableOf p rows sheets = sheets ≡ map (sheet_of p rows) (keys p.sheets)

-- no sheet weighs more than so many of the heaviest objects
abbrev pub AreLight : ℕ → List TableSheetData → Type 0
AreLight count sheets = All (λ sheet. sheet.weight ≤ count * 4294967296) sheets

-- a sheet of this name, with no objects on it so far
abbrev pub bare_sheet : List ℕ → TableSheetData
bare_sheet name = record { name = name; components = []; weight = 0 }

-- the name, if there is one, is this one
abbrev pub is_name : List ℕ → Option (List ℕ) → Bool
is_name value None = false
is_name value (Some name) = bytes_eq name value
