use Rattle.std.proofs.Common.{◌≡◌, take}
use Rattle.project_model.specs.Changes.{values_in}
use Rattle.edit_rules.specs.Weights.{weight_in}
use Rattle.conductor_counts.specs.Conductors.{conductor_weights}
use Rattle.conductor_counts.proofs.changes.taken_out.Given as goal

abbrev pub invariant-loop-item : goal.invariant-loop-item
invariant-loop-item l =
    (l.sum ≡ weight_in (conductor_weights l.fn.tables.symbols) (values_in l.project.contents (take l.item-index l.items))) × (l.tables ≡ l.fn.tables)
