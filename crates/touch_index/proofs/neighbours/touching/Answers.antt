use Rattle.std.proofs.Common.{ap, subst, sym, ◌∙◌}
use Rattle.std.specs.Option.{option_copied}
use Rattle.std.specs.List.Sorted.{IsStrictlySortedBy}
use Rattle.geda_geom.specs.Keys.{by_key}
use Rattle.touch_index.specs.steps.Sifting.{conductor_at}
use Rattle.touch_index.proofs.BesideLemmas.{all_listed, columns_proper, rows_proper}
use Rattle.touch_index.proofs.neighbours.touching.Goals as goal

pub near-requires-clause-rows : goal.near-requires-clause-rows
near-requires-clause-rows c = rows_proper (conductor_at c.args.conductors.now.entries) c.args.grid.now c.requires.drawn

pub near-requires-clause-columns : goal.near-requires-clause-columns
near-requires-clause-columns c = columns_proper (conductor_at c.args.conductors.now.entries) c.args.grid.now c.requires.drawn

pub returns-in_default-clause-rising : goal.returns-in_default-clause-rising
unfolding IsStrictlySortedBy
returns-in_default-clause-rising c = subst (IsStrictlySortedBy by_key) (sym c.new.ensures.items) tt

pub returns-clause-same : goal.returns-clause-same
returns-clause-same c =
    let there = sym c.get.ensures.value ∙ ap option_copied c.in-Some.is in
    all_listed c.args.conductors.now.entries c.args.grid.now c.in-Some.own.now c.args.key c.in_ok-near.near.items c.in_order.result.items c.requires.indexed c.requires.drawn there
    c.in_ok-near.ensures.only c.in_ok-near.ensures.found c.in_order.ensures.same
