use Rattle.std.proofs.Common.{◌≡◌, ◌≤◌, ◌+◌, drop}
use Rattle.project_model.specs.Changes.{count_names}
use Rattle.project_model.proofs.change.count_names.Given as goal

abbrev pub invariant-loop-item : goal.invariant-loop-item
invariant-loop-item l = (l.count + count_names (drop l.item-index l.items) ≡ count_names l.items) × (l.count ≤ l.item-index)
