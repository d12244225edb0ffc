use Rattle.std.proofs.Common.{sym}
use Rattle.attr_table.proofs.TextLemmas.{all_ascii}
use Rattle.attr_table.proofs.fields.are_texts.Goals as goal

pub returns-then-is_ascii : goal.returns-then-is_ascii
returns-then-is_ascii c = sym (all_ascii 0 _ _ (rw c.as_slice.ensures at c.if-is_ascii.ensures.cases))
