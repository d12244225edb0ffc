-- The sheets of a project and their objects, as texts (own).
use Rattle.std.specs.Prelude.{ℕ, List, [], ◌∷◌, ◌++◌, length, map, filter}
use Rattle.std.specs.FinMap.{entries, keys}
use Rattle.std.specs.Fmt.{decimal}
use Rattle.std.specs.List.{flat_map}
use Rattle.geda_defs.specs.Lines.{ended}
use Rattle.project_model.specs.declared.change.Placed.{Placed}
use Rattle.geda_model.specs.declared.object.Body.{Body}
use Rattle.geda_model.specs.declared.object.Body.TheVariants as bodies
use Rattle.project_model.specs.Projects.{ProjectData, ids_on, is_on}
use Rattle.geda_model.specs.Sheets.{HeadData, SheetData}
use Rattle.geda_grammar.specs.Letters.{byte_of}
use Rattle.geda_grammar.specs.Rows.{letter_of_shape}
use Rattle.geda_grammar.specs.declared.letter.Letter.TheVariants as letters
use Rattle.printed_texts.specs.PrintedTexts.{word}

-- the objects of a sheet with their ids, by id
abbrev pub objects_on : ProjectData → List ℕ → List (ℕ × Placed)
objects_on p name = filter (is_on name) (entries p.objects)

-- a sheet of a project under its version line
abbrev pub sheet_under : ProjectData → List ℕ → HeadData → SheetData
sheet_under p name head =
    record { head = head; objects = map (λ row. row.1.object) (objects_on p name) }

-- the letter of an object
abbrev pub object_letter : Body → ℕ
object_letter (bodies.Shape s) = byte_of (letter_of_shape s)
object_letter (bodies.Component c) = byte_of letters.Component

-- an object: its id and its letter
abbrev pub object_line : ℕ × Placed → List ℕ
object_line row = ended (decimal row.0 ++ 32 ∷ object_letter row.1.object.body ∷ [])

-- a line for each object of a sheet, by id
abbrev pub objects_text : ProjectData → List ℕ → List ℕ
objects_text p name = flat_map object_line (objects_on p name)

-- a sheet: its name and how many objects it has
abbrev pub sheet_line : ProjectData → List ℕ → List ℕ
sheet_line p name =
    ended (word name ++ 32 ∷ decimal (length (ids_on p name)))

-- a line for each sheet, by name
abbrev pub sheets_text : ProjectData → List ℕ
sheets_text p = flat_map (sheet_line p) (keys p.sheets)
