use Rattle.std.proofs.Common.{List, Result, codes, length, arith, sym, subst}
use Rattle.std.proofs.lemmas.Bool.{le-ltb}
use Rattle.std.specs.Prelude.{Vec}
use Rattle.std.specs.declared.alloc.Global.{Global}
use Rattle.attr_table.specs.Filling.{entries_from}
use Rattle.attr_table.specs.SheetTables.{Numbered}
use Rattle.edit_entries.specs.Entries.{EntryData}
use Rattle.table_files.specs.FilledFiles.{FilledData, entries_in, filled_or_fault}
use Rattle.table_files.specs.OpenedFiles.{GivesTableFile}
use Rattle.table_files.specs.declared.fault.TableFileFault.{TableFileFault}
use Rattle.table_files.proofs.FillingLemmas.{fault_kept}
use Rattle.table_files.proofs.filling.filled_into.Goals as goal

pub returns-in-Ok : goal.returns-in-Ok
returns-in-Ok c =
    let h = c.args.desk.now.history in
    let sheet = c.args.sheet.now in
    let bytes = c.args.bytes.now in
    rw (le-ltb 4194304 (length bytes) (omega (arith, c.if-bytes-gt-MOST_FILE_BYTES.false)))
    (subst (λ (entries : Result (List EntryData) TableFileFault). GivesTableFile (λ (filled : FilledData). filled) c.filled_by.result (filled_or_fault h sheet entries)) (sym c.in-Ok.ensures.entries) c.filled_by.ensures)

pub returns-in-Err : goal.returns-in-Err
returns-in-Err c =
    let h = c.args.desk.now.history in
    let sheet = c.args.sheet.now in
    let bytes = c.args.bytes.now in
    rw (le-ltb 4194304 (length bytes) (omega (arith, c.if-bytes-gt-MOST_FILE_BYTES.false)))
    (fault_kept (λ (v : Vec Numbered Global). entries_from (codes "fill") 2 1 v.items) h sheet c.in-Err.fault (entries_in h sheet c.args.table.now bytes) c.in-Err.ensures.entries)
