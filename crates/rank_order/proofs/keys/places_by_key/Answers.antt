use Rattle.std.proofs.Common.{List, ℕ, ◌++◌, ap, ◌∙◌}
use Rattle.rank_order.specs.Chains.{entry_places}
use Rattle.rank_order.proofs.KeyLemmas.{entries_by_key}
use Rattle.rank_order.proofs.keys.places_by_key.Goals as goal

pub returns : goal.returns
returns g c =
    let put = rw (c.deref.ensures.value) at c.in_ok-put_places.ensures in
    put
    ∙ ap (λ (xs : List ℕ). xs ++ entry_places c.put_in_order.new.items.items) c.in_ok-places.ensures.items
    ∙ ap entry_places c.in_ok-put_in_order.ensures
    ∙ entries_by_key g.K.Ord.cmp c.args.keys.now c.in_ok-entries.entries.items c.in_ok-entries.ensures
