-- The entries of a table, or its fault.
use Rattle.std.proofs.Common.{◌≡◌, ℕ, List, Option, None, Result, Ok, Err, codes, sym, ap, subst, ◌∙◌}
use Rattle.attr_table.specs.declared.fault.TableFault.{TableFault}
use Rattle.attr_table.specs.declared.fault.TableFault.TheVariants as table_faults
use Rattle.attr_table.specs.Filling.{AnswersTable, entries_from, filled_components, table_entries}
use Rattle.attr_table.specs.Records.{Record}
use Rattle.attr_table.specs.SheetTables.{Numbered}
use Rattle.attr_table.specs.TableFaults.{table_fault}
use Rattle.edit_entries.specs.Entries.{EntryData}
use Rattle.edit_rules.specs.Histories.{project}
use Rattle.project_model.specs.Projects.{ProjectData}
use Rattle.table_files.specs.Faults.{row_fault}
use Rattle.table_files.specs.FilledFiles.{FilledData, entries_or_fault, filled_or_fault}
use Rattle.table_files.specs.OpenedFiles.{GivesTableFile}
use Rattle.table_files.specs.declared.fault.TableFileFault.{TableFileFault}
use Rattle.table_files.specs.declared.fault.TableFileFault.TheVariants as faults
use Rattle.table_files.specs.steps.Room.{AreOfTable}

-- components that a table without a fault makes are those of its entries
pub made_told : (h : List EntryData) (sheet table : List ℕ) (records : List Record) (p : ProjectData) (cs : List Numbered) → p ≡ project h
    → (table_fault p sheet records ≡ None) × (cs ≡ filled_components p sheet records)
    → entries_or_fault h sheet table records (table_fault (project h) sheet records) ≡ Ok (entries_from (codes "fill") 2 1 cs)
unfolding table_entries
made_told h sheet table records p cs same is =
    let none : table_fault (project h) sheet records ≡ None = subst (λ (q : ProjectData). table_fault q sheet records ≡ None) same is.0 in
    let made : cs ≡ filled_components (project h) sheet records = subst (λ (q : ProjectData). cs ≡ filled_components q sheet records) same is.1 in
    ap (entries_or_fault h sheet table records) none ∙ ap (λ (made : List Numbered). Ok (entries_from (codes "fill") 2 1 made)) (sym made)

pub of_table : (h : List EntryData) (sheet : List ℕ) (records : List Record) (p : ProjectData) (cs : List Numbered) → p ≡ project h
    → (table_fault p sheet records ≡ None) × (cs ≡ filled_components p sheet records) → AreOfTable (project h) sheet cs
of_table h sheet records p cs same is =
    subst (λ (q : ProjectData). AreOfTable q sheet cs) same (record { records = records; faultless = is.0; made = sym is.1 })

-- the fault of a table is told with its record
pub fault_told : {V W X : Type 0} (shown : V → W) (view : X → List EntryData) (h : List EntryData) (sheet table : List ℕ) (records : List Record)
    (fault : TableFault) (o : Option TableFault) (w : W) → AnswersTable shown (Err fault) o w
    → GivesTableFile view (Err (row_fault table fault)) (entries_or_fault h sheet table records o)
fault_told shown view h sheet table records table_faults.NoMemory o w is = tt
fault_told shown view h sheet table records table_faults.NoHeader o w is = ap (entries_or_fault h sheet table records) is
fault_told shown view h sheet table records (table_faults.NotUtf8 row) o w is = ap (entries_or_fault h sheet table records) is
fault_told shown view h sheet table records (table_faults.BadName column) o w is = ap (entries_or_fault h sheet table records) is
fault_told shown view h sheet table records (table_faults.BadWidth row) o w is = ap (entries_or_fault h sheet table records) is
fault_told shown view h sheet table records (table_faults.BadId row) o w is = ap (entries_or_fault h sheet table records) is
fault_told shown view h sheet table records (table_faults.BadValue row column) o w is = ap (entries_or_fault h sheet table records) is

-- a fault of the entries is that of the filling
pub fault_kept : {X : Type 0} (view : X → List EntryData) (h : List EntryData) (sheet : List ℕ) (fault : TableFileFault) (entries : Result (List EntryData) TableFileFault)
    → GivesTableFile view (Err fault) entries → GivesTableFile (λ (filled : FilledData). filled) (Err fault) (filled_or_fault h sheet entries)
fault_kept view h sheet (faults.Refused file line kind) entries is = ap (filled_or_fault h sheet) is
fault_kept view h sheet (faults.EditRefused file fault) entries is = ap (filled_or_fault h sheet) is
fault_kept view h sheet (faults.TableRefused file row kind) entries is = ap (filled_or_fault h sheet) is
fault_kept view h sheet faults.NoMemory entries is = tt
