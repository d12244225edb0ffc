use Rattle.std.proofs.Common.{◌≡◌, take}
use Rattle.net_names.proofs.packages.headed.Given as goal

abbrev pub invariant-loop-at : goal.invariant-loop-at
invariant-loop-at l = l.headed.items ≡ take l.at l.refdeses
