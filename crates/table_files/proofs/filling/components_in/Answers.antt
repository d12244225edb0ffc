use Rattle.std.proofs.Common.{◌≡◌, List, Err, codes, rules, sym, subst}
use Rattle.std.specs.Prelude.{Vec}
use Rattle.std.specs.declared.alloc.Global.{Global}
use Rattle.attr_table.specs.Filling.{entries_from}
use Rattle.attr_table.specs.Records.{records_of}
use Rattle.attr_table.specs.SheetTables.{Numbered}
use Rattle.attr_table.specs.TableFaults.{table_fault}
use Rattle.edit_entries.specs.Entries.{EntryData}
use Rattle.project_model.specs.Projects.{ProjectData}
use Rattle.table_files.specs.Faults.{row_fault}
use Rattle.table_files.specs.FilledFiles.{entries_in, entries_or_fault}
use Rattle.table_files.specs.OpenedFiles.{GivesTableFile}
use Rattle.table_files.specs.declared.fault.TableFileFault.{TableFileFault}
use Rattle.table_files.proofs.FillingLemmas.{fault_told, made_told, of_table}
use Rattle.table_files.proofs.filling.components_in.Goals as goal

abbrev entries_of : Vec Numbered Global → List EntryData
entries_of v = entries_from (codes "fill") 2 1 v.items

pub returns-in-Ok-clause-entries : goal.returns-in-Ok-clause-entries
returns-in-Ok-clause-entries c =
    made_told c.args.desk.now.history c.args.sheet.now c.args.table.now (records_of c.args.bytes.now) c.project.result.now.contents c.in-Ok.components.items
    c.project.ensures.contents c.in-Ok.ensures.made

pub returns-in-Ok-clause-table : goal.returns-in-Ok-clause-table
returns-in-Ok-clause-table c =
    of_table c.args.desk.now.history c.args.sheet.now (records_of c.args.bytes.now) c.project.result.now.contents c.in-Ok.components.items
    c.project.ensures.contents c.in-Ok.ensures.made

pub returns-in_ok-file-in-Err-clause-entries : goal.returns-in_ok-file-in-Err-clause-entries
returns-in_ok-file-in-Err-clause-entries c =
    let h = c.args.desk.now.history in
    let sheet = c.args.sheet.now in
    let table = c.args.table.now in
    let records = records_of c.args.bytes.now in
    let same : c.row_fault.result ≡ row_fault table c.in-Err.fault = search rules in
    let told = fault_told (λ (v : Vec Numbered Global). v.items) entries_of h sheet table records c.in-Err.fault (table_fault c.project.result.now.contents sheet records) _ c.in-Err.ensures.made in
    let here = subst (λ (p : ProjectData). GivesTableFile entries_of (Err (row_fault table c.in-Err.fault)) (entries_or_fault h sheet table records (table_fault p sheet records))) c.project.ensures.contents told in
    subst (λ (e : TableFileFault). GivesTableFile entries_of (Err e) (entries_in h sheet table c.args.bytes.now)) (sym same) here
