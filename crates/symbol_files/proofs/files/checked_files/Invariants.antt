use Rattle.std.proofs.Common.{◌≤◌, List, [], Result, drop}
use Rattle.geda_defs.specs.Contents.{KeepsFiles}
use Rattle.project_files.specs.declared.fault.FileFault.{FileFault}
use Rattle.sym_check.specs.declared.report.CheckedFile.{CheckedFile}
use Rattle.symbol_files.specs.CheckedFiles.{ChecksFrom}
use Rattle.symbol_files.proofs.files.checked_files.Given as goal

abbrev pub invariant-loop-name : goal.invariant-loop-name
invariant-loop-name g l = record {
  comes : (outcome : Result (List CheckedFile) FileFault)
      → ChecksFrom (g.F.Folder.files l.fn.folder) l.checked.items (drop l.name-index l.names) outcome
      → ChecksFrom (g.F.Folder.files l.fn.folder) [] l.names outcome;
  kept : KeepsFiles (g.F.Folder.files l.fn.folder) (g.F.Folder.files l.folder);
  later : g.F.Folder.faults l.fn.folder ≤ g.F.Folder.faults l.folder;
}
