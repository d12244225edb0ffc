use Rattle.std.proofs.Common.{true}
use Rattle.engine_core.specs.Calls.{TellsTaking}
use Rattle.engine_core.specs.Worlds.{World}
use Rattle.engine_board.specs.Holding.{IsHolding}
use Rattle.engine_board.specs.steps.Turns.{Renews}
use Rattle.engine_board.proofs.CallLemmas.{of_told, renew_of}
use Rattle.engine_board.proofs.calls.renew.Goals as goal

pub returns : goal.returns
returns g c = of_told (λ (w : World). IsHolding c.args.fence true c.args.count w) (λ (w v : World). TellsTaking c.args.fence w v c.take.result) (λ (w v : World). Renews c.args.fence c.args.count w v c.take.result) (renew_of c.args.fence c.args.count c.take.result) (g.E.Engine.world c.args.engine.now) (g.E.Engine.world c.take.new.self) c.requires.holds c.take.ensures
