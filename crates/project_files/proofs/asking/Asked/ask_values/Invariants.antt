use Rattle.std.proofs.Common.{◌≤◌, drop}
use Rattle.geda_defs.specs.Contents.{KeepsFiles}
use Rattle.project_files.specs.steps.Progress.{Leads}
use Rattle.project_files.specs.steps.Asking.{LeavesValues}
use Rattle.project_files.proofs.asking.Asked.ask_values.Given as goal

abbrev pub invariant-loop-value : goal.invariant-loop-value
invariant-loop-value g l = record {
  read : Leads (g.F.Folder.files l.fn.folder) l.fn.self l.self (LeavesValues l.fn.self l.values l.self (drop l.value-index l.values));
  kept : KeepsFiles (g.F.Folder.files l.fn.folder) (g.F.Folder.files l.folder);
  later : g.F.Folder.faults l.fn.folder ≤ g.F.Folder.faults l.folder;
}
