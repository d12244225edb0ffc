use Rattle.engine_core.specs.Calls.{TellsRow}
use Rattle.engine_core.specs.Worlds.{World}
use Rattle.engine_board.specs.Holds.{HoldsBoard, ShowsRow}
use Rattle.engine_board.proofs.CallLemmas.{of_told, row_of}
use Rattle.engine_board.proofs.rows.row_below.Goals as goal

pub returns : goal.returns
returns g c = of_told (HoldsBoard c.args.hold) (λ (w v : World). TellsRow c.args.serial w v c.row.result) (ShowsRow c.args.hold c.args.serial c.row.result) (row_of c.args.hold c.args.serial c.row.result c.requires.below) (g.E.Engine.world c.args.engine.now) (g.E.Engine.world c.row.new.self) c.requires.held c.row.ensures
