use Rattle.std.proofs.Common.{◌++◌, ◌+◌, ℕ, List, Option, drop, map, sym, ap, subst, ◌∙◌, arith}
use Rattle.std.specs.HashMap.{get_by_text}
use Rattle.std.specs.HashSet.{contains_text}
use Rattle.std.specs.List.{cons_option, filter_map}
use Rattle.std.proofs.lemmas.List.{append-nil, drop_more}
use Rattle.project_model.specs.declared.change.Placed.{Placed}
use Rattle.project_model.specs.Tables.{row_now}
use Rattle.refdes_renum.specs.Renumbering.{component_refdes}
use Rattle.refdes_renum.specs.steps.UsedTexts.{Tracks}
use Rattle.refdes_renum.proofs.UsedLemmas.{drop_all, takes_step}
use Rattle.refdes_renum.proofs.places.used_texts.Goals as goal

pub loop-row-preserved : goal.loop-row-preserved
loop-row-preserved c =
    let inv = c.loop-row.invariant in
    let f : ℕ × Placed → Option (List ℕ) = λ row. component_refdes c.args.project.now.contents row.1.object in
    let is = c.row-item.is in
    let rest = filter_map f (map row_now (drop (c.loop-row.row-index + 1) c.args.rows.now)) in
    let step = takes_step inv.0 rest (contains_text c.loop-row.used.used) (contains_text c.take_refdes.new.used.used) (get_by_text c.loop-row.used.next) (get_by_text c.take_refdes.new.used.next) _ c.in_ok-take_refdes.ensures inv.1 in
    let next = drop_more c.args.rows.now c.loop-row.row-index c.row-item.result (omega (arith, c.loop-row-test.true)) in
    let same = c.in_ok-refdes.ensures.same ∙ ap (λ r. f (row_now r)) is in (
      step.0,
      step.1,
      step.2
          ∙ ap (λ o. inv.0 ++ cons_option o rest) same
          ∙ ap (λ rs. inv.0 ++ filter_map f (map row_now rs)) (sym next)
          ∙ inv.2,
    )

pub returns : goal.returns
returns c =
    let inv = c.loop-row.invariant in
    let f : ℕ × Placed → Option (List ℕ) = λ row. component_refdes c.args.project.now.contents row.1.object in
    subst (λ texts. Tracks texts (contains_text c.loop-row.used.used) (get_by_text c.loop-row.used.next))
    (sym (append-nil inv.0) ∙ ap (λ rs. inv.0 ++ filter_map f (map row_now rs)) (sym (drop_all c.loop-row.row-index c.args.rows.now (omega (arith, c.loop-row-test.false)))) ∙ inv.2)
    inv.1
