use Rattle.engine_core.specs.Calls.{TellsTaking}
use Rattle.engine_core.specs.Worlds.{World}
use Rattle.engine_board.specs.steps.Taking.{MayTake, Opened}
use Rattle.engine_board.proofs.CallLemmas.{of_told}
use Rattle.engine_board.proofs.OpeningLemmas.{open_of}
use Rattle.engine_board.proofs.opening.take_under.Goals as goal

pub returns : goal.returns
returns g c = of_told (λ (w : World). MayTake c.args.fence w) (λ (w v : World). TellsTaking c.args.fence w v c.take.result) (λ (w v : World). Opened w v c.take.result) (open_of c.args.fence c.take.result) (g.E.Engine.world c.args.engine.now) (g.E.Engine.world c.take.new.self) c.requires.may c.take.ensures
