use Rattle.std.proofs.Common.{take}
use Rattle.touch_index.specs.steps.Sifting.{StandForAll, conductor_at}
use Rattle.touch_index.proofs.neighbours.apart.Given as goal

abbrev pub invariant-loop-key : goal.invariant-loop-key
invariant-loop-key l = StandForAll (conductor_at l.conductors.entries) l.left.items (take l.key-index l.keys)
