use Rattle.net_flood.specs.steps.Found.{IsMovingFound}
use Rattle.net_flood.proofs.partition.Partition.put_found.Given as goal

abbrev pub invariant-loop-key : goal.invariant-loop-key
invariant-loop-key l = IsMovingFound l.start l.found.entries l.key-iterator l.fn.left l.left l.fn.self l.self
