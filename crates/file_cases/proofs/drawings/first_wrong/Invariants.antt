use Rattle.file_cases.specs.steps.Drawings.{HasOthers}
use Rattle.file_cases.proofs.drawings.first_wrong.Given as goal

abbrev pub invariant-loop-place : goal.invariant-loop-place
invariant-loop-place l = HasOthers l.index.conductors 25 l.gone
