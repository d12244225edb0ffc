use Rattle.std.proofs.Common.{◌≡◌, []}
use Rattle.project_files.specs.MemoryFolder.{files_in}
use Rattle.renum_files.specs.steps.Growing.{with_heads}
use Rattle.renum_files.proofs.sheet_texts.head_texts.Given as goal

abbrev pub invariant-loop-name : goal.invariant-loop-name
invariant-loop-name l =
    with_heads l.project.contents l.name-iterator (files_in l.texts) ≡ with_heads l.project.contents l.names.keys []
