use Rattle.std.proofs.Common.{◌≡◌, false, replicate}
use Rattle.sheet_groups.proofs.marks.flags.Given as goal

abbrev pub invariant-loop-place : goal.invariant-loop-place
invariant-loop-place l = l.flags.items ≡ replicate l._place false
