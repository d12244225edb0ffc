use Rattle.std.proofs.Common.{◌≡◌, ◌++◌, ◌+◌, ◌-◌}
use Rattle.std.specs.List.{flat_map, range_with_len}
use Rattle.sym_check.specs.steps.FoundBy.{missing_slotdef_by}
use Rattle.sym_check.proofs.on_slots.push_missing.Given as goal

abbrev pub invariant-loop-place : goal.invariant-loop-place
invariant-loop-place l =
    l.found.items ++ flat_map (missing_slotdef_by l.heads) (range_with_len (l.place + 1) (l.count - l.place))
    ≡ l.fn.found.items ++ flat_map (missing_slotdef_by l.heads) (range_with_len 1 l.count)
