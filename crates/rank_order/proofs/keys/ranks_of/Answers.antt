use Rattle.std.proofs.Common.{length, ap, ◌∙◌}
use Rattle.std.proofs.lemmas.List.{length-replicate}
use Rattle.rank_order.proofs.KeyLemmas.{places_inside, ranks_are}
use Rattle.rank_order.proofs.keys.ranks_of.Goals as goal

pub number-count-requires-clause-inside : goal.number-count-requires-clause-inside
number-count-requires-clause-inside g c = rw (c.deref.ensures.value, c.in_ok-places.ensures) (places_inside g.met.K.Ord.total c.args.keys.now)

pub returns : goal.returns
returns g c =
    let keys = c.args.keys.now in
    let len = c.number-count.ensures.len ∙ ap length c.in_ok-ranks.ensures ∙ length-replicate (length keys) 0 in
    ranks_are g.met.K.Ord.total keys c.number-count.new.ranks.items c.number-count.result len (rw (c.deref.ensures.value, c.in_ok-places.ensures) at c.number-count.ensures.numbers)
