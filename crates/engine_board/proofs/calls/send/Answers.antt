use Rattle.std.proofs.Common.{false}
use Rattle.engine_core.specs.Calls.{TellsPut}
use Rattle.engine_core.specs.Worlds.{World}
use Rattle.engine_board.specs.Holding.{IsHolding}
use Rattle.engine_board.specs.steps.Turns.{Sends}
use Rattle.engine_board.proofs.CallLemmas.{of_told, send_of}
use Rattle.engine_board.proofs.calls.send.Goals as goal

pub returns : goal.returns
returns g c = of_told (λ (w : World). IsHolding c.args.fence false c.args.count w) (λ (w v : World). TellsPut c.args.fence c.args.count c.args.body.now w v c.put.result) (λ (w v : World). Sends c.args.fence c.args.count c.args.body.now w v c.put.result) (send_of c.args.fence c.args.count c.args.body.now c.put.result) (g.E.Engine.world c.args.engine.now) (g.E.Engine.world c.put.new.self) c.requires.holds c.put.ensures
