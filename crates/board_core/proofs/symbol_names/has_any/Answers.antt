use Rattle.std.proofs.Common.{◌≤◌, List, length, rules, subst, arith}
use Rattle.std.specs.HashSet.{contains_text}
use Rattle.std.proofs.lemmas.List.{take_all}
use Rattle.project_model.specs.Items.{Item}
use Rattle.board_core.specs.steps.SymbolNames.{HasNoneKnown}
use Rattle.board_core.proofs.ThingLemmas.{none_more}
use Rattle.board_core.proofs.symbol_names.has_any.Goals as goal

pub loop-item-preserved : goal.loop-item-preserved
loop-item-preserved c =
    none_more (contains_text c.args.names.now) c.args.items.now c.loop-item.item-index c.item-item.result (omega arith) c.item-item.is c.loop-item.invariant (c.is_among.ensures c.if-is_among.false)

pub returns : goal.returns
returns c = λ none.
    let past : length c.args.items.now ≤ c.loop-item.item-index = search rules in
    subst (λ (all : List Item). HasNoneKnown (contains_text c.args.names.now) all) (take_all c.loop-item.item-index c.args.items.now past) c.loop-item.invariant
