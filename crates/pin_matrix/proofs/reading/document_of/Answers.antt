use Rattle.std.proofs.Common.{rules, ◌≡◌, length, nat_le, true}
use Rattle.toml.specs.View.{table_view}
use Rattle.pin_matrix.proofs.Documents.{is_document, no_document}
use Rattle.pin_matrix.proofs.reading.document_of.Goals as goal

pub returns-in-Ok-clause-document : goal.returns-in-Ok-clause-document
returns-in-Ok-clause-document c =
    let short : nat_le (length c.args.text.now) 4194304 ≡ true = search rules in
    is_document c.args.text.now (table_view c.in-Ok.table) short c.in-Ok.ensures.ok.0 c.in-Ok.ensures.ok.1

pub returns-else-is_memory-clause-bad : goal.returns-else-is_memory-clause-bad
returns-else-is_memory-clause-bad c =
    let short : nat_le (length c.args.text.now) 4194304 ≡ true = search rules in
    λ _. no_document c.args.text.now short (c.in-Err.ensures.refused (λ is. let bad = c.if-is_memory.ensures.1 is in cc))
