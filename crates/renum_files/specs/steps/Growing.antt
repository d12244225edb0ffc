-- Steps of the code; no public clause cites them.
-- Files of sheets that grow by the texts of objects (own).
use Rattle.std.specs.Prelude.{ℕ, if◌then◌else◌, List, [], ◌∷◌, ◌++◌, None, Some, map, option_map}
use Rattle.std.specs.declared.option.Option.{Option}
use Rattle.std.specs.BTreeMap.{insert_entry}
use Rattle.std.specs.FinMap.{get}
use Rattle.std.specs.Str.{bytes_eq}
use Rattle.geda_defs.specs.Order.{by_bytes}
use Rattle.geda_grammar.specs.Canonical.{head_text, object_text}
use Rattle.geda_model.specs.Sheets.{HeadData}
use Rattle.project_model.specs.declared.change.Placed.{Placed}
use Rattle.project_model.specs.Projects.{ProjectData}
use Rattle.renum_files.specs.RenumberedFiles.{File}

-- the file of a sheet up to its version line; none where there is no such sheet
abbrev pub head_file : ProjectData → List ℕ → Option File
head_file p name = option_map (λ head. (name, head_text head)) (get p.sheets name)

-- files with one more at its place in order, if there is a version line for it
abbrev pub with_head : List ℕ → Option HeadData → List File → List File
with_head name None files = files
with_head name (Some head) files = insert_entry by_bytes files name (head_text head)

-- files with those of these sheets that a project has, each up to its version line
abbrev pub with_heads : ProjectData → List (List ℕ) → List File → List File
with_heads p [] files = files
with_heads p (name ∷ names) files =
    with_heads p names (with_head name (get p.sheets name) files)

-- the file of a sheet with the text of an object behind it, if the object stands on the sheet
abbrev pub with_object : Placed → File → File
with_object placed file =
    if bytes_eq placed.sheet file.0 then (file.0, file.1 ++ object_text placed.object) else file

-- files of sheets with the texts of these objects, each behind that of its sheet
abbrev pub with_objects : List (ℕ × Placed) → List File → List File
with_objects [] files = files
with_objects (row ∷ rows) files = with_objects rows (map (with_object row.1) files)
