use Rattle.file_cases.specs.steps.Drawings.{HasFirst}
use Rattle.file_cases.proofs.drawings.index_of.Given as goal

abbrev pub invariant-loop-place : goal.invariant-loop-place
invariant-loop-place l = HasFirst l.index.conductors l.place
