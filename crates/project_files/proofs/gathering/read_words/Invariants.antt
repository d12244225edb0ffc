use Rattle.std.proofs.Common.{◌≤◌, take, drop}
use Rattle.geda_defs.specs.Contents.{KeepsFiles}
use Rattle.project_files.specs.steps.Standing.{StandsAt}
use Rattle.project_files.proofs.gathering.read_words.Given as goal

abbrev pub invariant-loop-name : goal.invariant-loop-name
invariant-loop-name g l = record {
  stands : StandsAt (g.F.Folder.files l.fn.folder) l.names (take l.name-index l.names) (drop l.name-index l.names) l.asked l.sheets.items;
  kept : KeepsFiles (g.F.Folder.files l.fn.folder) (g.F.Folder.files l.folder);
  later : g.F.Folder.faults l.fn.folder ≤ g.F.Folder.faults l.folder;
}
