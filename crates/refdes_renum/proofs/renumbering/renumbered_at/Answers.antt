use Rattle.std.proofs.Common.{◌≡◌, ◌++◌, ◌∷◌, sym, ap, ◌∙◌, append_assoc}
use Rattle.std.specs.FinMap.{get}
use Rattle.std.specs.HashMap.{get_by_text}
use Rattle.std.specs.HashSet.{contains_text}
use Rattle.refdes_renum.specs.Renumbering.{items_of, renumbered_at, used_after}
use Rattle.refdes_renum.proofs.UsedLemmas.{place_step}
use Rattle.refdes_renum.proofs.renumbering.renumbered_at.Goals as goal

pub loop-place-preserved : goal.loop-place-preserved
loop-place-preserved c =
    let inv = c.loop-place.invariant in
    let p = c.args.project.now.contents in
    let id = c.in-Some.place.now.id in
    let o = get p.objects id in
    let has = contains_text c.loop-place.used.used in
    let next = get_by_text c.loop-place.used.next in
    let old = c.loop-place.change.items in
    let rest = c.next.new.self in
    let texts = used_after p inv.0 o in
    let later = renumbered_at p texts rest in
    let step = place_step p inv.0 has (contains_text c.renumber_place.new.used.used) next (get_by_text c.renumber_place.new.used.next) id o c.in_ok-renumber_place.ensures.used inv.1 in
    let steps = c.in-Some.ensures.steps in
    let goes = c.in-Some.ensures.goes in
    let left : c.loop-place.place-iterator ≡ c.in-Some.place.now ∷ rest = cc in (
      texts,
      step.0,
      ap (λ items. items ++ later) (c.in_ok-renumber_place.ensures.items ∙ ap (λ items. old ++ items) step.1)
          ∙ append_assoc old (items_of p inv.0 id o) later
          ∙ ap (λ places. old ++ renumbered_at p inv.0 places) (sym left)
          ∙ inv.2,
    )
