use Rattle.std.proofs.Common.{◌≡◌, drop, map}
use Rattle.project_files.specs.MemoryFolder.{files_in}
use Rattle.project_model.specs.Tables.{row_now}
use Rattle.renum_files.specs.steps.Growing.{with_objects}
use Rattle.renum_files.proofs.sheet_texts.put_objects.Given as goal

abbrev pub invariant-loop-row : goal.invariant-loop-row
invariant-loop-row l =
    with_objects (map row_now (drop l.row-index l.rows)) (files_in l.texts) ≡ with_objects (map row_now l.rows) (files_in l.fn.texts)
