-- The faults that are met in files, and the status and the line of each fault (own).
use Rattle.std.specs.Prelude.{ℕ, List, ◌++◌, codes}
use Rattle.std.specs.Fmt.{decimal}
use Rattle.edit_entries.specs.declared.fault.EditFault.{EditFault}
use Rattle.edit_entries.specs.declared.fault.EditFault.TheVariants as edit_faults
use Rattle.geda_grammar.specs.KindNames.{read_kind_name}
use Rattle.project_files.specs.declared.fault.FileFault.{FileFault}
use Rattle.project_files.specs.declared.fault.FileFault.TheVariants as file_faults
use Rattle.renum_files.specs.declared.fault.RenumberFault.{RenumberFault}
use Rattle.renum_files.specs.declared.fault.RenumberFault.TheVariants as renumber_faults
use Rattle.hall_server.specs.declared.fault.ServeFault.{ServeFault}
use Rattle.hall_server.specs.declared.fault.ServeFault.TheVariants as serve_faults
use Rattle.store_copy.specs.declared.storing_fault.StoringFault.{StoringFault}
use Rattle.store_copy.specs.declared.storing_fault.StoringFault.TheVariants as storing_faults
use Rattle.printed_texts.specs.PrintedTexts.{word}
use Rattle.spice_out.specs.declared.fault.SpiceFault.{SpiceFault}
use Rattle.spice_out.specs.declared.fault.SpiceFault.TheVariants as spice_faults
use Rattle.table_files.specs.declared.fault.TableFileFault.{TableFileFault}
use Rattle.table_files.specs.declared.fault.TableFileFault.TheVariants as table_faults
use Rattle.table_files.specs.declared.fault.TableKind.{TableKind}
use Rattle.table_files.specs.declared.fault.TableKind.TheVariants as table_kinds
use Rattle.gafd_run.specs.declared.fault.RunFault.{RunFault}
use Rattle.gafd_run.specs.declared.fault.RunFault.TheVariants as faults

-- a fault that is met in files, as the program ends with it
abbrev pub run_fault : FileFault → RunFault
run_fault (file_faults.Missing file) = faults.Missing file
run_fault (file_faults.Refused file line kind) = faults.Refused file line kind
run_fault file_faults.TooManyObjects = faults.TooManyObjects
run_fault file_faults.ProjectFull = faults.ProjectFull
run_fault file_faults.FolderFault = faults.FolderFault
run_fault file_faults.NoMemory = faults.NoMemory

-- why a net list has no SPICE text, as the program ends with it
abbrev pub circuit_fault : SpiceFault → RunFault
circuit_fault (spice_faults.NameClash refdes) = faults.NameClash refdes
circuit_fault (spice_faults.PinSet refdes) = faults.PinSet refdes
circuit_fault (spice_faults.TwoNets refdes) = faults.TwoNets refdes
circuit_fault (spice_faults.NoValue refdes) = faults.NoValue refdes
circuit_fault spice_faults.NoMemory = faults.NoMemory

-- a fault that is met in numbering, as the program ends with it
abbrev pub renumber_fault : RenumberFault → RunFault
renumber_fault renumber_faults.ProjectFull = faults.ProjectFull
renumber_fault renumber_faults.NoMemory = faults.NoMemory

-- a fault of a sheet or of its table, as the program ends with it
abbrev pub table_file_fault : TableFileFault → RunFault
table_file_fault (table_faults.Refused file line kind) = faults.Refused file line kind
table_file_fault (table_faults.EditRefused file fault) = faults.EditRefused file fault
table_file_fault (table_faults.TableRefused file row kind) = faults.TableRefused file row kind
table_file_fault table_faults.NoMemory = faults.NoMemory

-- a fault that is met in serving, as the program ends with it
abbrev pub serve_fault : ServeFault → RunFault
serve_fault serve_faults.GateFault = faults.GateFault
serve_fault serve_faults.KeeperFault = faults.KeeperFault
serve_fault (serve_faults.RowRefused serial) = faults.RowRefused serial
serve_fault serve_faults.NoPlace = faults.NoPlace
serve_fault serve_faults.OutputFault = faults.OutputFault
serve_fault serve_faults.NoMemory = faults.NoMemory

-- a fault that is met in copying a store, as the program ends with it
abbrev pub storing_fault : StoringFault → RunFault
storing_fault storing_faults.KeeperFault = faults.KeeperFault
storing_fault (storing_faults.RowRefused serial) = faults.RowRefused serial
storing_fault (storing_faults.RowDiffers serial) = faults.RowDiffers serial
storing_fault storing_faults.OutputFault = faults.OutputFault
storing_fault storing_faults.NoMemory = faults.NoMemory

-- the status with which the program ends
abbrev pub status_of : RunFault → ℕ
status_of (faults.Missing file) = 1
status_of (faults.Refused file line kind) = 1
status_of (faults.EditRefused file fault) = 1
status_of (faults.TableRefused file row kind) = 1
status_of (faults.BadToml file) = 1
status_of (faults.BadRows file) = 1
status_of faults.TooManyObjects = 1
status_of faults.ProjectFull = 1
status_of faults.TooManyInstances = 1
status_of (faults.NameClash refdes) = 1
status_of (faults.PinSet refdes) = 1
status_of (faults.TwoNets refdes) = 1
status_of (faults.NoValue refdes) = 1
status_of faults.Usage = 2
status_of faults.FolderFault = 3
status_of faults.OutputFault = 4
status_of faults.KeeperFault = 5
status_of (faults.RowRefused serial) = 6
status_of faults.GateFault = 8
status_of (faults.RowDiffers serial) = 10
status_of faults.NoPlace = 11
status_of faults.NoMemory = 71

-- the name of why an edit is refused
abbrev pub edit_fault_name : EditFault → List ℕ
edit_fault_name edit_faults.NoSheet = codes "NoSheet"
edit_fault_name edit_faults.SheetExists = codes "SheetExists"
edit_fault_name edit_faults.NoSymbol = codes "NoSymbol"
edit_fault_name edit_faults.SymbolExists = codes "SymbolExists"
edit_fault_name (edit_faults.NoObject id) = codes "NoObject"
edit_fault_name (edit_faults.NotOnKind id) = codes "NotOnKind"
edit_fault_name (edit_faults.BadText kind line) = codes "BadText"
edit_fault_name (edit_faults.OutOfRange id) = codes "OutOfRange"
edit_fault_name (edit_faults.Stale newer) = codes "Stale"
edit_fault_name edit_faults.NotYours = codes "NotYours"
edit_fault_name (edit_faults.UndoneAlready by) = codes "UndoneAlready"
edit_fault_name (edit_faults.UndoBlocked by) = codes "UndoBlocked"
edit_fault_name (edit_faults.SheetInUse id) = codes "SheetInUse"
edit_fault_name (edit_faults.BaseAhead front) = codes "BaseAhead"
edit_fault_name (edit_faults.NumberGap last) = codes "NumberGap"
edit_fault_name (edit_faults.NumberReused serial) = codes "NumberReused"
edit_fault_name edit_faults.TooManyObjects = codes "TooManyObjects"
edit_fault_name edit_faults.ProjectFull = codes "ProjectFull"
edit_fault_name edit_faults.HistoryFull = codes "HistoryFull"
edit_fault_name edit_faults.NoSuchEntry = codes "NoSuchEntry"
edit_fault_name (edit_faults.NoAttribute id) = codes "NoAttribute"

-- the name of what is wrong with a table
abbrev pub table_kind_name : TableKind → List ℕ
table_kind_name table_kinds.TooLarge = codes "TooLarge"
table_kind_name table_kinds.NoHeader = codes "NoHeader"
table_kind_name table_kinds.NotUtf8 = codes "NotUtf8"
table_kind_name table_kinds.BadName = codes "BadName"
table_kind_name table_kinds.BadWidth = codes "BadWidth"
table_kind_name table_kinds.BadId = codes "BadId"
table_kind_name table_kinds.BadValue = codes "BadValue"

-- the line that the fault prints
abbrev pub error_line : RunFault → List ℕ
error_line (faults.Missing file) = codes "gafd: " ++ file ++ codes ": missing\n"
error_line (faults.Refused file line kind) =
    codes "gafd: " ++ file ++ codes ":" ++ decimal line
    ++ codes ": " ++ read_kind_name kind ++ codes "\n"
error_line (faults.EditRefused file fault) =
    codes "gafd: " ++ file ++ codes ": " ++ edit_fault_name fault ++ codes "\n"
error_line (faults.TableRefused file row kind) =
    codes "gafd: " ++ file ++ codes ":" ++ decimal row
    ++ codes ": " ++ table_kind_name kind ++ codes "\n"
error_line (faults.BadToml file) = codes "gafd: " ++ file ++ codes ": BadToml\n"
error_line (faults.BadRows file) = codes "gafd: " ++ file ++ codes ": BadRows\n"
error_line faults.TooManyObjects = codes "gafd: TooManyObjects\n"
error_line faults.ProjectFull = codes "gafd: ProjectFull\n"
error_line faults.TooManyInstances = codes "gafd: TooManyInstances\n"
error_line (faults.NameClash refdes) = codes "gafd: NameClash " ++ word refdes ++ codes "\n"
error_line (faults.PinSet refdes) = codes "gafd: PinSet " ++ word refdes ++ codes "\n"
error_line (faults.TwoNets refdes) = codes "gafd: TwoNets " ++ word refdes ++ codes "\n"
error_line (faults.NoValue refdes) = codes "gafd: NoValue " ++ word refdes ++ codes "\n"
error_line faults.Usage = codes "gafd: usage\n"
error_line faults.FolderFault = codes "gafd: folder fault\n"
error_line faults.OutputFault = codes "gafd: output fault\n"
error_line faults.KeeperFault = codes "gafd: keeper fault\n"
error_line (faults.RowRefused serial) =
    codes "gafd: stored row " ++ decimal serial ++ codes " refused\n"
error_line (faults.RowDiffers serial) = codes "gafd: row " ++ decimal serial ++ codes " differs\n"
error_line faults.GateFault = codes "gafd: gate fault\n"
error_line faults.NoPlace = codes "gafd: no place\n"
error_line faults.NoMemory = codes "gafd: out of memory\n"
