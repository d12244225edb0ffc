use Rattle.std.proofs.Common.{◌++◌, take, subst, arith}
use Rattle.std.specs.HashMap.{get_by_text}
use Rattle.std.specs.Str.{bytes_eq}
use Rattle.std.proofs.lemmas.Slice.Eq.{bytes_eq-Decides}
use Rattle.link_classes.specs.steps.FirstPlaces.{TiesKeys, pair_with}
use Rattle.link_classes.proofs.FirstPlaceLemmas.{ties_more}
use Rattle.link_classes.proofs.ListLemmas.{taken_next}
use Rattle.link_classes.proofs.names.tie_names.Goals as goal

pub loop-row-preserved : goal.loop-row-preserved
loop-row-preserved c = λ keyed ties.
    let names = c.args.names.now in
    let k = c.loop-row.row-index in
    let row = c.row-item.result in
    let so_far = keyed ++ take k names in
    let more = ties_more bytes_eq bytes_eq-Decides row.0 row.1 (get_by_text c.loop-row.first) (get_by_text c.tie_name.new.first) c.in_ok-tie_name.ensures.first c.loop-row.pairs.items so_far (c.loop-row.invariant keyed ties) in
    rw c.in_ok-tie_name.ensures.pairs
    (subst (TiesKeys (get_by_text c.tie_name.new.first) (c.loop-row.pairs.items ++ pair_with (get_by_text c.loop-row.first row.0) row.1))
    (taken_next keyed names k row (omega arith) c.row-item.is) more)
