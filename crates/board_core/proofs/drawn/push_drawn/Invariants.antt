use Rattle.std.proofs.Common.{◌≡◌, ◌++◌, map}
use Rattle.std.specs.Vec.Iter.{into_iter_items}
use Rattle.sheet_groups.specs.Conductors.{sheet_conductor}
use Rattle.board_core.specs.steps.Standing.{come}
use Rattle.board_core.proofs.drawn.push_drawn.Given as goal

abbrev pub invariant-loop-place : goal.invariant-loop-place
invariant-loop-place l = l.all.items ++ map come (map (sheet_conductor (l.id, l.placed)) (into_iter_items l.place-iterator))
    ≡ l.fn.all.items ++ map come (map (sheet_conductor (l.id, l.placed)) l.fn.drawn.items)
