-- The file of a sheet as the history of the entry that adds it (own).
use Rattle.std.specs.Prelude.{◌≡◌, ⊤, ℕ, List, [], ◌∷◌, None, Some, Result, Ok, Err, codes}
use Rattle.geda_grammar.specs.declared.kind.ReadKind.{ReadKind}
use Rattle.geda_model.specs.Sheets.{SheetData}
use Rattle.edit_entries.specs.Entries.{EntryData}
use Rattle.edit_entries.specs.declared.edit.Edit.TheVariants as edits
use Rattle.edit_rules.specs.Values.{sheet_value}
use Rattle.desk_entries.specs.Putting.{Put, put_all}
use Rattle.table_files.specs.declared.fault.TableFileFault.{TableFileFault}
use Rattle.table_files.specs.declared.fault.TableFileFault.TheVariants as faults

-- the entry that adds a sheet with this text
abbrev pub add_sheet : List ℕ → List ℕ → EntryData
add_sheet sheet text = record {
  session = codes "fill";
  number = 1;
  base = 0;
  edit = edits.AddSheet sheet text;
}

-- what it comes to that this entry is put into a history
unfoldable pub put_sheet : List EntryData → List ℕ → List ℕ → Put
put_sheet h sheet text = put_all h (add_sheet sheet text ∷ [])

-- the history of entries that were put, or the fault of the first that was refused
abbrev pub put_or_fault : List ℕ → Put → Result (List EntryData) TableFileFault
put_or_fault sheet (h, None) = Ok h
put_or_fault sheet (h, Some fault) = Err (faults.EditRefused sheet fault)

-- the history of the entry that adds a sheet, given what its text spells
abbrev pub opened_value :
    List ℕ → List ℕ → Result SheetData (ReadKind × ℕ) → Result (List EntryData) TableFileFault
opened_value sheet bytes (Ok value) = put_or_fault sheet (put_sheet [] sheet bytes)
opened_value sheet bytes (Err fault) = Err (faults.Refused sheet fault.1 fault.0)

-- the history of the entry that adds the sheet of a file
abbrev pub opened_file : List ℕ → List ℕ → Result (List EntryData) TableFileFault
opened_file sheet bytes = opened_value sheet bytes (sheet_value bytes)

-- what is come to, seen so, or want of memory
abbrev pub GivesTableFile :
    {X Y : Type 0} → (X → Y) → Result X TableFileFault → Result Y TableFileFault → Type 0
GivesTableFile view (Ok x) end = end ≡ Ok (view x)
GivesTableFile view (Err faults.NoMemory) end = ⊤
GivesTableFile view (Err fault) end = end ≡ Err fault
