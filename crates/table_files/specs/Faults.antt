-- The faults of the file of a sheet, and of a table (own).
use Rattle.std.specs.Prelude.{◌≡◌, ⊤, ℕ, List, Result, Ok, Err}
use Rattle.geda_grammar.specs.declared.kind.ReadKind.{ReadKind}
use Rattle.geda_model.specs.Sheets.{SheetData}
use Rattle.attr_table.specs.declared.fault.TableFault.{TableFault}
use Rattle.attr_table.specs.declared.fault.TableFault.TheVariants as table_faults
use Rattle.geda_read.specs.declared.fault.ReadFault.{ReadFault}
use Rattle.geda_read.specs.declared.fault.ReadFault.TheVariants as read_faults
use Rattle.table_files.specs.declared.fault.TableFileFault.{TableFileFault}
use Rattle.table_files.specs.declared.fault.TableFileFault.TheVariants as faults
use Rattle.table_files.specs.declared.fault.TableKind.TheVariants as kinds

-- what a fault of the reader becomes
abbrev pub IsUnread : List ℕ → ReadFault → TableFileFault → Type 0
IsUnread file (read_faults.At kind line) e = e ≡ faults.Refused file line kind
IsUnread file read_faults.NoMemory e = e ≡ faults.NoMemory

-- the fault of a sheet's file, given what its text spells, and another one where it has none; or
-- want of memory
abbrev pub IsFaultOf :
    List ℕ → TableFileFault → Result SheetData (ReadKind × ℕ) → TableFileFault → Type 0
IsFaultOf file other value faults.NoMemory = ⊤
IsFaultOf file other (Ok sheet) e = e ≡ other
IsFaultOf file other (Err fault) e = e ≡ faults.Refused file fault.1 fault.0

-- the fault of a table with its record: the first for those of the first record
abbrev pub row_fault : List ℕ → TableFault → TableFileFault
row_fault file table_faults.NoHeader = faults.TableRefused file 1 kinds.NoHeader
row_fault file (table_faults.NotUtf8 row) = faults.TableRefused file row kinds.NotUtf8
row_fault file (table_faults.BadName column) = faults.TableRefused file 1 kinds.BadName
row_fault file (table_faults.BadWidth row) = faults.TableRefused file row kinds.BadWidth
row_fault file (table_faults.BadId row) = faults.TableRefused file row kinds.BadId
row_fault file (table_faults.BadValue row column) = faults.TableRefused file row kinds.BadValue
row_fault file table_faults.NoMemory = faults.NoMemory
