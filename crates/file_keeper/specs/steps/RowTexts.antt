-- What is read of the text of a row (own).
use Rattle.std.specs.Prelude.{◌≡◌, ⊤, ℕ, List, Result, Ok, Err}
use Rattle.edit_entries.specs.Entries.{EntryData}
use Rattle.edit_json.specs.Rows.{RowData, RowIsInRange}
use Rattle.edit_json.specs.declared.row.RowFault.{RowFault}
use Rattle.edit_json.specs.declared.row.RowFault.TheVariants as rows
use Rattle.file_keeper.specs.RowFiles.{IsRowLine}
use Rattle.keeper_core.specs.declared.keeper.KeepFault.{KeepFault}
use Rattle.keeper_core.specs.declared.keeper.KeepFault.TheVariants as fault

-- what a reader of a text answers
abbrev pub ReadsText : List ℕ → Result EntryData KeepFault → Type 0
ReadsText text (Ok entry) = IsRowLine text entry
ReadsText text (Err fault.Failed) = (entry : EntryData) → ¬ (IsRowLine text entry)
ReadsText text (Err fault.NoMemory) = ⊤

-- the entry of the row that was read, or the same fault
abbrev pub TakesEntry : Result RowData RowFault → Result EntryData KeepFault → Type 0
TakesEntry (Ok row) (Ok entry) = (entry ≡ row.entry) × RowIsInRange row
TakesEntry (Err rows.BadRow) (Err fault.Failed) = ⊤
TakesEntry (Err rows.NoMemory) (Err fault.NoMemory) = ⊤
TakesEntry read taken = ⊥
