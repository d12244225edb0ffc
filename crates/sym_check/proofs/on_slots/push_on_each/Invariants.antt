use Rattle.std.proofs.Common.{◌≡◌, ◌++◌, drop}
use Rattle.std.specs.List.{flat_map}
use Rattle.sym_check.specs.steps.FoundBy.{on_slotdef_by}
use Rattle.sym_check.proofs.on_slots.push_on_each.Given as goal

abbrev pub invariant-loop-slotdef : goal.invariant-loop-slotdef
invariant-loop-slotdef l =
    l.found.items ++ flat_map (on_slotdef_by l.twice l.symbol) (drop l.slotdef-index l.slotdefs)
    ≡ l.fn.found.items ++ flat_map (on_slotdef_by l.twice l.symbol) l.slotdefs
