use Rattle.std.proofs.Common.{◌≡◌, ◌++◌, ◌+◌, ◌-◌, Some}
use Rattle.std.specs.List.{flat_map, range_with_len}
use Rattle.component_checks.specs.steps.SlotRows.{unused_in}
use Rattle.component_checks.proofs.on_packages.add_unused_of.Given as goal

abbrev pub invariant-loop-place : goal.invariant-loop-place
invariant-loop-place l =
    l.found.items ++ flat_map (unused_in (Some l.slots) l.refdes) (range_with_len (l.place + 1) (l.count - l.place))
    ≡ l.fn.found.items ++ flat_map (unused_in (Some l.slots) l.refdes) (range_with_len 1 l.count)
