use Rattle.std.proofs.Common.{◌≤◌, take}
use Rattle.gafd_run.specs.Writing.{HasFiles}
use Rattle.gafd_run.proofs.delivery.write_files.Given as goal

abbrev pub invariant-loop-file : goal.invariant-loop-file
invariant-loop-file g l = record {
  has : HasFiles (g.F.Folder.files l.fn.folder) (g.F.Folder.files l.folder) (take l.file-index l.files);
  later : g.F.Folder.faults l.fn.folder ≤ g.F.Folder.faults l.folder;
}
