use Rattle.engine_keeper.proofs.VouchedLemmas.{adds_rows}
use Rattle.engine_keeper.proofs.steps.put_body.Goals as goal

pub returns-in-Ok-clause-rows : goal.returns-in-Ok-clause-rows
returns-in-Ok-clause-rows g c = λ entry row. adds_rows c.args.hold.now c.put.new.hold c.args.body.now entry (g.E.Engine.world c.args.engine.now) (g.E.Engine.world c.put.new.engine) row c.in-Ok.ensures.ended
