use Rattle.std.proofs.Common.{List, ap, subst, sym, Contains, ◌∙◌}
use Rattle.std.specs.Option.{option_copied}
use Rattle.std.specs.List.Sorted.{IsStrictlySortedBy}
use Rattle.geda_geom.specs.declared.conductor.Key.{Key}
use Rattle.geda_geom.specs.Keys.{by_key}
use Rattle.touch_index.specs.steps.Sifting.{StandForAll, conductor_at}
use Rattle.touch_index.proofs.BesideLemmas.{columns_proper, found_span, none_spans, rows_proper}
use Rattle.touch_index.proofs.ListLemmas.{none_is_in}
use Rattle.touch_index.proofs.neighbours.spanning.Goals as goal

pub near-requires-clause-rows : goal.near-requires-clause-rows
near-requires-clause-rows c = rows_proper (conductor_at c.args.conductors.now.entries) c.args.grid.now c.requires.drawn

pub near-requires-clause-columns : goal.near-requires-clause-columns
near-requires-clause-columns c = columns_proper (conductor_at c.args.conductors.now.entries) c.args.grid.now c.requires.drawn

pub returns-in_default-clause-rising : goal.returns-in_default-clause-rising
unfolding IsStrictlySortedBy
returns-in_default-clause-rising c = subst (IsStrictlySortedBy by_key) (sym c.new.ensures.items) tt

pub returns-in_default-clause-spanning : goal.returns-in_default-clause-spanning
returns-in_default-clause-spanning c =
    none_spans (conductor_at c.args.conductors.now.entries) c.args.key c.new.result.items (sym c.get.ensures.value ∙ ap option_copied c.in_default.is)
    (λ q h. none_is_in q (subst (λ (ks : List Key). Contains ks q) c.new.ensures.items h))

pub returns-clause-spanning : goal.returns-clause-spanning
returns-clause-spanning c =
    let there = sym c.get.ensures.value ∙ ap option_copied c.in-Some.is in
    found_span c.args.conductors.now.entries c.args.grid.now c.in-Some.own.now c.args.key c.in_ok-near.near.items c.in_order.result.items c.requires.indexed c.requires.drawn there
    c.in_ok-near.ensures.only c.in_ok-left.left.items c.in_ok-near.ensures.found
    (subst (StandForAll (conductor_at c.args.conductors.now.entries) c.in_ok-left.left.items) c.deref.ensures.value c.in_ok-left.ensures) c.in_order.ensures.same
