use Rattle.std.proofs.Common.{map, ◌∙◌}
use Rattle.net_list.specs.declared.package.Package.{Package}
use Rattle.net_names.proofs.PackageLemmas.{bare_count, packages_are, places_fit, ranks_fit_in}
use Rattle.net_names.proofs.packages.packages_of.Goals as goal

pub put_texts-requires-clause-places : goal.put_texts-requires-clause-places
put_texts-requires-clause-places c =
    let ranks = c.args.ranks.now in
    rw (c.deref-2.ensures.value, c.into_lists-refdeses.ensures.devices) (places_fit c.args.parts ranks.ranks.items ranks.count c.requires (λ p. p.device))

pub put_texts-requires-2-clause-ranks : goal.put_texts-requires-2-clause-ranks
put_texts-requires-2-clause-ranks c =
    let ranks = c.args.ranks.now in
    let keys = map (λ (p : Package). p.refdes) c.args.parts in
    let begun = rw (c.deref.ensures.value, c.into_lists-refdeses.ensures.refdeses) at c.in_ok-packages.ensures in
    let first = bare_count keys ranks.ranks.items ranks.count c.requires _ begun in
    rw c.deref-3.ensures.value (ranks_fit_in keys ranks.ranks.items ranks.count c.requires _ (c.put_texts.ensures.len ∙ first))

pub put_texts-requires-2-clause-places : goal.put_texts-requires-2-clause-places
put_texts-requires-2-clause-places c =
    let ranks = c.args.ranks.now in
    rw (c.deref-3.ensures.value, c.into_lists-refdeses.ensures.values) (places_fit c.args.parts ranks.ranks.items ranks.count c.requires (λ p. p.value))

pub put_texts-requires-3-clause-ranks : goal.put_texts-requires-3-clause-ranks
put_texts-requires-3-clause-ranks c =
    let ranks = c.args.ranks.now in
    let keys = map (λ (p : Package). p.refdes) c.args.parts in
    let begun = rw (c.deref.ensures.value, c.into_lists-refdeses.ensures.refdeses) at c.in_ok-packages.ensures in
    let first = bare_count keys ranks.ranks.items ranks.count c.requires _ begun in
    rw c.deref-4.ensures.value (ranks_fit_in keys ranks.ranks.items ranks.count c.requires _ (c.put_texts-2.ensures.len ∙ c.put_texts.ensures.len ∙ first))

pub put_texts-requires-3-clause-places : goal.put_texts-requires-3-clause-places
put_texts-requires-3-clause-places c =
    let ranks = c.args.ranks.now in
    rw (c.deref-4.ensures.value, c.into_lists-refdeses.ensures.footprints) (places_fit c.args.parts ranks.ranks.items ranks.count c.requires (λ p. p.footprint))

pub returns : goal.returns
returns c =
    let ranks = c.args.ranks.now in
    let told = c.into_lists-refdeses.ensures in
    c.from_vec.ensures
    ∙ packages_are c.args.parts ranks.ranks.items ranks.count c.requires _ _ _ _
    (rw (c.deref.ensures.value, told.refdeses) at c.in_ok-packages.ensures)
    (rw (c.deref-2.ensures.value, told.devices) at c.put_texts.ensures.texts)
    (rw (c.deref-3.ensures.value, told.values) at c.put_texts-2.ensures.texts)
    (rw (c.deref-4.ensures.value, told.footprints) at c.put_texts-3.ensures.texts)
