use Rattle.engine_core.specs.Calls.{OfTold}
use Rattle.engine_board.specs.Holds.{KeepsRows}
use Rattle.engine_board.proofs.tries.put_in_tries.Given as goal

abbrev pub invariant-loop : goal.invariant-loop
invariant-loop g l = OfTold (KeepsRows l.fn.hold l.hold) (g.E.Engine.world l.fn.engine) (g.E.Engine.world l.engine)
