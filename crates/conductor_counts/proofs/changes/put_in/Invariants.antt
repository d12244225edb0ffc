use Rattle.std.proofs.Common.{◌≡◌, take}
use Rattle.edit_rules.specs.Weights.{weight_in}
use Rattle.conductor_counts.specs.Conductors.{conductor_weights}
use Rattle.conductor_counts.proofs.changes.put_in.Given as goal

abbrev pub invariant-loop-item : goal.invariant-loop-item
invariant-loop-item l =
    (l.sum ≡ weight_in (conductor_weights l.fn.tables.symbols) (take l.item-index l.items)) × (l.tables ≡ l.fn.tables)
