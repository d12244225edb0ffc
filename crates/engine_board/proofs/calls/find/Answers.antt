use Rattle.std.proofs.Common.{true}
use Rattle.engine_core.specs.Calls.{TellsOwner}
use Rattle.engine_core.specs.Worlds.{World}
use Rattle.engine_board.specs.Holding.{IsHolding}
use Rattle.engine_board.specs.steps.Turns.{Finds}
use Rattle.engine_board.proofs.CallLemmas.{of_told, find_of}
use Rattle.engine_board.proofs.calls.find.Goals as goal

pub returns : goal.returns
returns g c = of_told (λ (w : World). IsHolding c.args.fence true c.args.count w) (λ (w v : World). TellsOwner w v c.owner.result) (λ (w v : World). Finds c.args.fence c.args.count w v c.owner.result) (find_of c.args.fence c.args.count c.owner.result) (g.E.Engine.world c.args.engine.now) (g.E.Engine.world c.owner.new.self) c.requires.holds c.owner.ensures
