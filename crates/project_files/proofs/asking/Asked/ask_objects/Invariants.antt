use Rattle.std.proofs.Common.{◌≤◌, drop}
use Rattle.geda_defs.specs.Contents.{KeepsFiles}
use Rattle.project_files.specs.steps.Progress.{Leads}
use Rattle.project_files.specs.steps.Asking.{LeavesObjects}
use Rattle.project_files.proofs.asking.Asked.ask_objects.Given as goal

abbrev pub invariant-loop-object : goal.invariant-loop-object
invariant-loop-object g l = record {
  read : Leads (g.F.Folder.files l.fn.folder) l.fn.self l.self (LeavesObjects l.fn.self l.objects l.self (drop l.object-index l.objects));
  kept : KeepsFiles (g.F.Folder.files l.fn.folder) (g.F.Folder.files l.folder);
  later : g.F.Folder.faults l.fn.folder ≤ g.F.Folder.faults l.folder;
}
