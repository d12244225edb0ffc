use Rattle.engine_keeper.proofs.VouchedLemmas.{row_answer}
use Rattle.engine_keeper.proofs.steps.load_row.Goals as goal

pub returns-in-Ok-clause-row : goal.returns-in-Ok-clause-row
returns-in-Ok-clause-row g c = row_answer c.args.hold c.args.serial c.in-Ok.found c.entry_in.result (g.E.Engine.world c.args.engine.now) (g.E.Engine.world c.row.new.engine) c.in-Ok.ensures.shown c.entry_in.ensures.row
