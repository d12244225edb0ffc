use Rattle.row_texts.proofs.RowLemmas.{is_row}
use Rattle.row_texts.proofs.rows.row_body.Goals as goal

pub returns : goal.returns
returns c = is_row c.row_text.result (λ b. b.items) c.args.entry.now c.row_text.ensures.text c.row_text.ensures.reads_back
