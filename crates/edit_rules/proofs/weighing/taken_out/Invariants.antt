use Rattle.std.proofs.Common.{◌≡◌, ◌-◌, ◌^◌, min, take}
use Rattle.project_model.specs.Changes.{values_in}
use Rattle.edit_rules.specs.Weights.{weight_in}
use Rattle.edit_rules.specs.Tallies.{weights_of}
use Rattle.edit_rules.proofs.weighing.taken_out.Given as goal

abbrev pub invariant-loop-item : goal.invariant-loop-item
invariant-loop-item l = l.sum ≡ min (weight_in (weights_of l.which) (values_in l.project.contents (take l.item-index l.items))) (2 ^ 64 - 1)
