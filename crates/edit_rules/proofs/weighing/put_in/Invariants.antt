use Rattle.std.proofs.Common.{◌≡◌, ◌-◌, ◌^◌, min, take}
use Rattle.edit_rules.specs.Weights.{weight_in}
use Rattle.edit_rules.specs.Tallies.{weights_of}
use Rattle.edit_rules.proofs.weighing.put_in.Given as goal

abbrev pub invariant-loop-item : goal.invariant-loop-item
invariant-loop-item l = l.sum ≡ min (weight_in (weights_of l.which) (take l.item-index l.items)) (2 ^ 64 - 1)
