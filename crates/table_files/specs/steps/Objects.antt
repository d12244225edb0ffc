-- Steps of the code; no public clause cites them.
-- The objects of a sheet by their ids, among which components are put in, and the file that they
-- make.
use Rattle.std.specs.Prelude.{ℕ, Bool, false, ◌==◌, List, [], ◌∷◌, ◌++◌, length, map, Option, None, Some, slice_set}
use Rattle.std.specs.Borrow.{Bor}
use Rattle.std.specs.List.{flat_map, list_all, slice_get}
use Rattle.geda_grammar.specs.Canonical.{head_text, object_text}
use Rattle.geda_model.specs.Sheets.{HeadData, ObjectData}
use Rattle.project_model.specs.Projects.{is_on}
use Rattle.project_model.specs.declared.change.Placed.{Placed}
use Rattle.attr_table.specs.SheetTables.{Numbered}
use Rattle.renum_files.specs.RenumberedFiles.{File}

-- an object in a sheet, with its id
abbrev pub Row : Type 0
Row = ℕ × Placed

-- the object itself
abbrev pub object_of : Row → ObjectData
object_of row = row.1.object

-- the bytes of its text
abbrev pub row_bytes : Row → ℕ
row_bytes row = length (object_text row.1.object)

-- all stand in the sheet
abbrev pub all_on : List ℕ → List Row → Bool
all_on sheet rows = list_all (is_on sheet) rows

-- the row has this id
abbrev pub is_key : {V : Type 0} → ℕ → Option (ℕ × V) → Bool
is_key id None = false
is_key id (Some row) = row.0 == id

-- so has the one whose place is this id
abbrev pub has_key : {V : Type 0} → List (ℕ × V) → ℕ → Bool
has_key rows id = is_key id (slice_get rows id)

-- each of these components has its row so
abbrev pub have_keys : {V : Type 0} → List (ℕ × V) → List Numbered → Bool
have_keys rows cs = list_all (λ c. has_key rows c.0) cs

-- the objects that are lent
abbrev pub objects_now : List (Bor ObjectData) → List ObjectData
objects_now lent = map (λ o. o.now) lent

-- objects among which components are put in, each at the place that its id is
abbrev pub with_components : List ObjectData → List Numbered → List ObjectData
with_components objects [] = objects
with_components objects (c ∷ cs) = with_components (slice_set objects c.0 c.1) cs

-- the file of a sheet with this version line and these objects; none where there is no such line
abbrev pub files_of : List ℕ → Option HeadData → List ObjectData → List File
files_of sheet None objects = []
files_of sheet (Some head) objects = (sheet, head_text head ++ flat_map object_text objects) ∷ []
