use Rattle.std.proofs.Common.{ℕ, List, [], ◌≤◌, ◌-◌, ◌^◌, length}
use Rattle.geda_defs.specs.Contents.{KeepsFiles}
use Rattle.project_files.specs.steps.Standing.{StandsAt}
use Rattle.project_files.proofs.gathering.read_all.Given as goal

abbrev pub invariant-loop-file : goal.invariant-loop-file
invariant-loop-file g l = record {
  read : List (List ℕ);
  stands : StandsAt (g.F.Folder.files l.fn.folder) l.names read [] l.asked l.sheets.items;
  kept : KeepsFiles (g.F.Folder.files l.fn.folder) (g.F.Folder.files l.folder);
  later : g.F.Folder.faults l.fn.folder ≤ g.F.Folder.faults l.folder;
}

abbrev pub decreases-loop-file : goal.decreases-loop-file
decreases-loop-file g l = 2 ^ 64 - length l.sheets.items
