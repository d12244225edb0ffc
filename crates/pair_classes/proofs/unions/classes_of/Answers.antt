use Rattle.std.proofs.Common.{drop, length, arith}
use Rattle.std.proofs.lemmas.List.{take_at}
use Rattle.pair_classes.proofs.unions.classes_of.Goals as goal

pub returns : goal.returns
returns c =
    let labels = c.in_ok-labels.labels in
    let new = c.join_pairs.new.labels in
    rw (take_at new (drop (length new) labels.items) labels.len (omega arith))
    (rw (c.deref_mut.ensures.value, c.in_ok-labels.ensures.len) at c.join_pairs.ensures)
