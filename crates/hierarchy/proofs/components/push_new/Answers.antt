use Rattle.std.proofs.Common.{List, ℕ, sym, subst}
use Rattle.std.specs.HashSet.{contains_text}
use Rattle.hierarchy.specs.steps.SeenTexts.{AddsText, AreTheTexts}
use Rattle.hierarchy.proofs.SeenLemmas.{seen_more}
use Rattle.hierarchy.proofs.components.push_new.Goals as goal

pub returns-clause-seen : goal.returns-clause-seen
returns-clause-seen c =
    let old = contains_text c.args.seen.now in
    let new = contains_text c.add_text.new.seen in
    let adds = subst (λ (text : List ℕ). AddsText text old new) c.as_str-2.ensures c.in_ok-add_text.ensures in
    subst (AreTheTexts new) (sym c.in_ok-push.ensures.items) (seen_more old new c.args.values.now.items c.args.value c.requires.seen adds)
