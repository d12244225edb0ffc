use Rattle.toml.specs.View.{items_view}
use Rattle.pin_matrix.proofs.Lengths.{whole}
use Rattle.pin_matrix.proofs.reading.whole_rows.Goals as goal

pub returns-clause-whole : goal.returns-clause-whole
returns-clause-whole c = whole (items_view c.args.rows.now) c.in_ok-levels.levels.items c.in_ok-levels.ensures.rows
