use Rattle.std.proofs.Common.{◌≡◌, ◌++◌, drop}
use Rattle.std.specs.List.{flat_map}
use Rattle.project_model.specs.Projects.{ProjectData}
use Rattle.instance_objects.specs.SheetIds.{AreIdsBySheet}
use Rattle.reports.specs.SheetTexts.{sheet_line}
use Rattle.reports.proofs.sheet_texts.sheet_lines.Given as goal

abbrev pub invariant-loop-name : goal.invariant-loop-name
invariant-loop-name l = (p : ProjectData) → AreIdsBySheet p l.table
    → l.text.items ++ flat_map (sheet_line p) (drop l.name-index l.names) ≡ flat_map (sheet_line p) l.names
