use Rattle.std.proofs.Common.{◌≡◌, map, take}
use Rattle.gaf_work.proofs.live.LiveIds.of.Given as goal

abbrev pub invariant-loop-row : goal.invariant-loop-row
invariant-loop-row l = l.ids.items ≡ map (λ row. row.0) (take l.row-index l.row-items)
