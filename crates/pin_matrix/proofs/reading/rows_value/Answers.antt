use Rattle.std.proofs.Common.{codes}
use Rattle.toml.proofs.Views.{table_get}
use Rattle.pin_matrix.proofs.reading.rows_value.Goals as goal

pub returns : goal.returns
returns c = table_get c.get.result (codes "rows") c.args.document.now.entries c.get.ensures.value
