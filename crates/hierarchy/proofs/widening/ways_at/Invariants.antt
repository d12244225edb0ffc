use Rattle.std.proofs.Common.{◌≡◌, not, false, filter, map, slice_index_or}
use Rattle.std.specs.List.{range_with_len}
use Rattle.hierarchy.specs.Ways.{way_at}
use Rattle.hierarchy.proofs.widening.ways_at.Given as goal

abbrev pub invariant-loop-place : goal.invariant-loop-place
invariant-loop-place l = l.ways.items ≡ map way_at (filter (λ place. not (slice_index_or l.named place false)) (range_with_len 0 l.place))
