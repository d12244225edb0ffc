use Rattle.row_texts.proofs.RowLemmas.{taken}
use Rattle.row_texts.proofs.rows.row_entry.Goals as goal

pub returns : goal.returns
returns c = taken c.args.body.now c.read_row.result c.entry_in.result c.entry_in.ensures c.read_row.ensures.found
