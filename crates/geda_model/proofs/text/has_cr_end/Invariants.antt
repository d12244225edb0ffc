use Rattle.std.proofs.Common.{◌≡◌, length}
use Rattle.geda_model.specs.Ranges.{has_cr_end}
use Rattle.geda_model.proofs.text.has_cr_end.Given as goal

abbrev pub invariant-loop-rest : goal.invariant-loop-rest
invariant-loop-rest l = has_cr_end l.rest ≡ has_cr_end l.text

abbrev pub decreases-loop-rest : goal.decreases-loop-rest
decreases-loop-rest l = length l.rest
