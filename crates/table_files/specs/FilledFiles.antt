-- What filling a table into the file of a sheet comes to (own).
use Rattle.std.specs.Prelude.{ℕ, nat_lt, if◌then◌else◌, ◌==◌, List, [], ◌∷◌, Option, None, Some, Result, Ok, Err, codes, length}
use Rattle.std.specs.List.{filter_map}
use Rattle.std.specs.Result.{result_map_both}
use Rattle.geda_model.specs.Limits.{most_file_bytes}
use Rattle.edit_entries.specs.Entries.{EntryData}
use Rattle.edit_rules.specs.Histories.{project}
use Rattle.attr_table.specs.declared.fault.TableFault.{TableFault}
use Rattle.attr_table.specs.Filling.{table_entries}
use Rattle.attr_table.specs.Records.{Record, records_of}
use Rattle.attr_table.specs.TableFaults.{table_fault}
use Rattle.desk_entries.specs.Putting.{put_all}
use Rattle.renum_files.specs.RenumberedFiles.{File, renumbered_sheet_file}
use Rattle.table_files.specs.Faults.{row_fault}
use Rattle.table_files.specs.OpenedFiles.{put_or_fault}
use Rattle.table_files.specs.declared.fault.TableFileFault.{TableFileFault}
use Rattle.table_files.specs.declared.fault.TableFileFault.TheVariants as faults
use Rattle.table_files.specs.declared.fault.TableKind.TheVariants as kinds

-- how many components change, and the file of the sheet, if one does
pub record FilledData : Type 0 where
  pub count : ℕ
  pub files : List File

-- the file of a sheet in which so many components have changed, if one has
abbrev pub changed_files : List ℕ → ℕ → List EntryData → List File
changed_files sheet count h =
    if count == 0 then [] else filter_map (renumbered_sheet_file (project h)) (sheet ∷ [])

-- what a history comes to, in which so many components of a sheet have changed
abbrev pub filled_with : List ℕ → ℕ → List EntryData → FilledData
filled_with sheet count h = record { count = count; files = changed_files sheet count h }

-- the entries of a table without a fault: they follow the one that adds the sheet
abbrev pub entries_or_fault : List EntryData → List ℕ → List ℕ → List Record → Option TableFault
    → Result (List EntryData) TableFileFault
entries_or_fault h sheet table records None =
    Ok (table_entries (project h) sheet records (codes "fill") 2 1)
entries_or_fault h sheet table records (Some fault) = Err (row_fault table fault)

-- the entries of a table
abbrev pub entries_in : List EntryData → List ℕ → List ℕ → List ℕ
    → Result (List EntryData) TableFileFault
entries_in h sheet table bytes =
    entries_or_fault h sheet table (records_of bytes)
    (table_fault (project h) sheet (records_of bytes))

-- what it comes to that these entries are put into a history
abbrev pub filled_in_history :
    List EntryData → List ℕ → List EntryData → Result FilledData TableFileFault
filled_in_history h sheet entries =
    result_map_both (filled_with sheet (length entries)) (λ fault. fault)
    (put_or_fault sheet (put_all h entries))

-- the same of the entries of a table, which may have a fault
abbrev pub filled_or_fault : List EntryData → List ℕ → Result (List EntryData) TableFileFault
    → Result FilledData TableFileFault
filled_or_fault h sheet (Ok entries) = filled_in_history h sheet entries
filled_or_fault h sheet (Err fault) = Err fault

-- what filling a table into a sheet comes to
abbrev pub filled_file : List EntryData → List ℕ → List ℕ → List ℕ
    → Result FilledData TableFileFault
filled_file h sheet table bytes =
    if nat_lt most_file_bytes (length bytes)
    then Err (faults.TableRefused table 1 kinds.TooLarge)
    else filled_or_fault h sheet (entries_in h sheet table bytes)
