use Rattle.std.proofs.Common.{◌≡◌, ◌++◌, not, false, filter, map, slice_index_or}
use Rattle.std.specs.List.{range_with_len}
use Rattle.hierarchy.specs.Lost.{unreached_at}
use Rattle.hierarchy.proofs.lost.push_sheets.Given as goal

abbrev pub invariant-loop-place : goal.invariant-loop-place
invariant-loop-place l = l.lost.items ≡ l.fn.lost.items ++ map (unreached_at l.sheets) (filter (λ place. not (slice_index_or l.reached place false)) (range_with_len 0 l.place))
