-- What numbering makes of the files of a project (own).
use Rattle.std.specs.Prelude.{◌≡◌, ⊤, ℕ, ◌+◌, nat_lt, if◌then◌else◌, Bool, List, Result, Ok, Err, None, Some, filter, length, map, option_map}
use Rattle.std.specs.declared.option.Option.{Option}
use Rattle.std.specs.FinMap.{entries, get, values}
use Rattle.std.specs.List.{filter_map, sum_by}
use Rattle.std.specs.Result.{result_map_both}
use Rattle.geda_defs.specs.Order.{by_bytes, once_in_order}
use Rattle.geda_grammar.specs.Canonical.{object_text, sheet_text}
use Rattle.geda_model.specs.Limits.{most_project_text}
use Rattle.geda_model.specs.Sheets.{HeadData, SheetData}
use Rattle.project_files.specs.Measures.{symbols_text}
use Rattle.project_model.specs.Changes.{put}
use Rattle.project_model.specs.Items.{Item}
use Rattle.project_model.specs.Projects.{ProjectData, is_on}
use Rattle.project_model.specs.declared.change.Placed.{Placed}
use Rattle.project_model.specs.declared.change.Value.TheVariants as values
use Rattle.refdes_renum.specs.Renumbering.{renumbered}
use Rattle.renum_files.specs.declared.fault.RenumberFault.{RenumberFault}
use Rattle.renum_files.specs.declared.fault.RenumberFault.TheVariants as faults

-- a file: its name and its bytes
abbrev pub File : Type 0
File = List ℕ × List ℕ

-- the sheet in which an item of a change puts an object
abbrev pub sheet_of_item : Item → Option (List ℕ)
sheet_of_item (thing, Some (values.Object placed)) = Some placed.sheet
sheet_of_item item = None

-- the sheets in which a change puts objects, each once, by name
abbrev pub changed_sheets : List Item → List (List ℕ)
changed_sheets items = once_in_order by_bytes (filter_map sheet_of_item items)

-- the sheet that has these objects under its version line
abbrev pub sheet_with : HeadData → List (ℕ × Placed) → SheetData
sheet_with head rows = record { head = head; objects = map (λ row. row.1.object) rows }

-- the file of a sheet of a project, with its objects by id; none where there is no such sheet
abbrev pub renumbered_sheet_file : ProjectData → List ℕ → Option File
renumbered_sheet_file p name =
    option_map
    (λ head. (name, sheet_text (sheet_with head (filter (is_on name) (entries p.objects)))))
    (get p.sheets name)

-- the bytes of the canonical text of an object
abbrev pub placed_bytes : Placed → ℕ
placed_bytes placed = length (object_text placed.object)

-- the texts of all objects and all symbols have more bytes than those of a project may have
abbrev pub has_too_much_text : ProjectData → Bool
has_too_much_text p =
    nat_lt most_project_text (sum_by placed_bytes (values p.objects) + symbols_text p)

-- the files of these sheets of a project; a fault, where it has too much text
abbrev pub files_within : ProjectData → List (List ℕ) → Result (List File) RenumberFault
files_within p names =
    if has_too_much_text p then Err faults.ProjectFull
    else Ok (filter_map (renumbered_sheet_file p) names)

-- how many components get a number, and the files of the sheets that change, by name
pub record RenumberedData : Type 0 where
  pub count : ℕ
  pub files : List File

-- the two, of so many
abbrev pub counted : ℕ → List File → RenumberedData
counted count files = record { count = count; files = files }

-- what numbering a project comes to
abbrev pub renumbered_files : ProjectData → Result RenumberedData RenumberFault
renumbered_files p =
    result_map_both (counted (length (renumbered p))) (λ fault. fault)
    (files_within (put p (renumbered p)) (changed_sheets (renumbered p)))

-- what is come to, seen so, or want of memory
abbrev pub GivesRenumbered :
    {X Y : Type 0} → (X → Y) → Result X RenumberFault → Result Y RenumberFault → Type 0
GivesRenumbered view (Ok x) end = end ≡ Ok (view x)
GivesRenumbered view (Err faults.NoMemory) end = ⊤
GivesRenumbered view (Err faults.ProjectFull) end = end ≡ Err faults.ProjectFull
