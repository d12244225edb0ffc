use Rattle.std.proofs.Common.{◌≡◌, ◌≤◌, take}
use Rattle.std.specs.Prelude.{sum_by}
use Rattle.hierarchy.specs.Crowded.{weight_of}
use Rattle.hierarchy.proofs.crowd.are_heavy.Given as goal

abbrev pub invariant-loop-way : goal.invariant-loop-way
invariant-loop-way l = (l.total ≡ sum_by (weight_of l.sheets) (take l.way-index l.ways)) × (l.total ≤ 4000000)
