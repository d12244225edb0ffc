use Rattle.std.proofs.Common.{◌≡◌, length}
use Rattle.geda_text.specs.Lines.{without_crs}
use Rattle.geda_text.proofs.cutter.without_crs.Given as goal

abbrev pub invariant-loop-last : goal.invariant-loop-last
invariant-loop-last l = without_crs l.rest ≡ without_crs l.fn.line

abbrev pub decreases-loop-last : goal.decreases-loop-last
decreases-loop-last l = length l.rest
