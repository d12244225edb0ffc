use Rattle.std.proofs.Common.{◌||◌, Bool, ap, sym, is_some, suc, take, add-one, arith, ◌∙◌}
use Rattle.std.specs.FinMap.{get}
use Rattle.project_model.specs.declared.change.Thing.TheVariants as things
use Rattle.project_model.proofs.ChangeLemmas.{names_next, names_of_part}
use Rattle.edit_rules.specs.Histories.{changes_thing, is_same_thing}
use Rattle.edit_rules.proofs.Noting.{any_next}
use Rattle.edit_rules.proofs.RowLemmas.{or_assoc, or_none}
use Rattle.edit_rules.proofs.rehoming.open_all.Goals as goal

pub open_one-requires : goal.open_one-requires
open_one-requires c =
    let items = c.args.items.now in
    let i = c.loop-item.item-index in
    omega
    (arith, c.requires, c.loop-item.invariant.spare, names_next items i c.item-item.result c.loop-item-test.true c.item-item.is, names_of_part items (suc i))

pub loop-item-preserved : goal.loop-item-preserved
loop-item-preserved c =
    let items = c.args.items.now in
    let i = c.loop-item.item-index in
    let item = c.item-item.result in
    let lt = c.loop-item-test.true in
    record {
      counted = λ n. c.open_one.ensures.counted n ∙ c.loop-item.invariant.counted n;
      there = λ n. rw add-one (
          c.open_one.ensures.there n
          ∙ ap (λ (b : Bool). b || is_same_thing (things.SheetName n) item.0) (c.loop-item.invariant.there n)
          ∙ or_assoc (is_some (get c.args.homes.now.rows n)) (changes_thing (things.SheetName n) (take i items)) (is_same_thing (things.SheetName n) item.0)
          ∙ ap (λ (b : Bool). is_some (get c.args.homes.now.rows n) || b) (sym (any_next (things.SheetName n) items i item lt c.item-item.is)));
      spare = rw add-one (omega (arith, c.open_one.ensures.spare, c.loop-item.invariant.spare, names_next items i item lt c.item-item.is));
    }
