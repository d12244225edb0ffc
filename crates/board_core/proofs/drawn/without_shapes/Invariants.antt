use Rattle.std.proofs.Common.{◌≡◌, ◌++◌, map}
use Rattle.std.specs.Vec.Iter.{into_iter_items}
use Rattle.board_core.specs.steps.Standing.{without_shape}
use Rattle.board_core.proofs.drawn.without_shapes.Given as goal

abbrev pub invariant-loop-sheet : goal.invariant-loop-sheet
invariant-loop-sheet l = l.all.items ++ map without_shape (into_iter_items l.sheet-iterator) ≡ map without_shape l.fn.drawn.items
