use Rattle.std.proofs.Common.{◌≡◌, List, [], length, map, sym, ap, subst, ◌∙◌, arith}
use Rattle.project_model.specs.Tables.{row_now}
use Rattle.group_runs.specs.Runs.{AreFree, Coming, sheets_in, with_all, without}
use Rattle.group_runs.specs.Sheets.{AreKept, KeepsUntouched, SheetsData, kept_at}
use Rattle.board_core.specs.steps.Kept.{AreAllKept, AreBare, sheets_at}
use Rattle.board_core.specs.steps.Standing.{come, drawn_in}
use Rattle.board_core.proofs.OpenLemmas.{all, all_grouped, all_kept, none_bare, opened_free}
use Rattle.board_core.proofs.grouped.grouped.Goals as goal

pub open_all-requires : goal.open_all-requires
open_all-requires c = record { bare = subst AreBare (sym (ap (λ (d : SheetsData). d.rows) c.new-groups.ensures.empty)) none_bare }

pub apply-requires-clause-coming_kept : goal.apply-requires-clause-coming_kept
apply-requires-clause-coming_kept c =
    let p = c.args.project.now.contents in
    let opened = c.open_all.new.groups in
    let kept = subst (λ rows. AreAllKept opened.rows (sheets_at rows)) (ap (map row_now) c.deref.ensures.value ∙ c.in_ok-rows.ensures.objects) c.in_ok-open_all.ensures.kept in
    let bare = c.in_ok-open_all.ensures.bare in
    let is : c.deref-3.result.now ≡ all p opened.rows bare kept = c.deref-3.ensures.value ∙ c.in_ok-coming.ensures ∙ ap (λ rows. map come (drawn_in p rows)) (ap (map row_now) c.deref-2.ensures.value ∙ c.in_ok-rows.ensures.objects) in
    subst (λ (cs : List Coming). AreKept opened.rows (sheets_in cs)) (sym is) (all_kept p opened.rows bare kept)

pub apply-requires-clause-free : goal.apply-requires-clause-free
apply-requires-clause-free c =
    let p = c.args.project.now.contents in
    let opened = c.open_all.new.groups in
    let kept = subst (λ rows. AreAllKept opened.rows (sheets_at rows)) (ap (map row_now) c.deref.ensures.value ∙ c.in_ok-rows.ensures.objects) c.in_ok-open_all.ensures.kept in
    let bare = c.in_ok-open_all.ensures.bare in
    let is : c.deref-3.result.now ≡ all p opened.rows bare kept = c.deref-3.ensures.value ∙ c.in_ok-coming.ensures ∙ ap (λ rows. map come (drawn_in p rows)) (ap (map row_now) c.deref-2.ensures.value ∙ c.in_ok-rows.ensures.objects) in
    subst (λ (cs : List Coming). AreFree (kept_at opened.rows) cs) (sym is) (opened_free p opened.rows bare kept)

pub returns : goal.returns
returns c =
    let p = c.args.project.now.contents in
    let opened = c.open_all.new.groups in
    let kept = subst (λ rows. AreAllKept opened.rows (sheets_at rows)) (ap (map row_now) c.deref.ensures.value ∙ c.in_ok-rows.ensures.objects) c.in_ok-open_all.ensures.kept in
    let bare = c.in_ok-open_all.ensures.bare in
    let is : c.deref-3.result.now ≡ all p opened.rows bare kept = c.deref-3.ensures.value ∙ c.in_ok-coming.ensures ∙ ap (λ rows. map come (drawn_in p rows)) (ap (map row_now) c.deref-2.ensures.value ∙ c.in_ok-rows.ensures.objects) in
    let new = c.apply.new.self in
    let none : opened.steps ≡ 0 = c.open_all.ensures.steps ∙ ap (λ (d : SheetsData). d.steps) c.new-groups.ensures.empty in
    all_grouped p opened.rows bare kept new.rows new.steps
    (subst (λ (cs : List Coming). KeepsUntouched [] cs opened.rows new.rows) is c.apply.ensures.others)
    c.in_ok-apply.ensures.kept
    (c.in_ok-apply.ensures.conductors ∙ ap (λ (cs : List Coming). with_all (without (kept_at opened.rows) []) cs) is)
    (λ sum sizes. let few = c.apply.ensures.steps sum sizes in let long = ap length is in omega (arith, few, long, none))
