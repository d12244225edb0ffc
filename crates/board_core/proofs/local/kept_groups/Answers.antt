use Rattle.std.proofs.Common.{◌≡◌, List, map, sym, ap, subst, ◌∙◌}
use Rattle.project_model.specs.Tables.{row_now}
use Rattle.group_runs.specs.Runs.{Coming}
use Rattle.group_runs.specs.Sheets.{kept_at}
use Rattle.sheet_groups.specs.Conductors.{sheet_conductors}
use Rattle.sheet_groups.proofs.GroupLemmas.{groups_rise}
use Rattle.board_core.specs.steps.Reading.{CanRead, LeastRows}
use Rattle.board_core.specs.steps.Standing.{come, drawn_in}
use Rattle.board_core.proofs.LocalLemmas.{are_read, can_read}
use Rattle.board_core.proofs.local.kept_groups.Goals as goal

pub least_rows-requires : goal.least_rows-requires
least_rows-requires c =
    let p = c.args.project.now.contents in
    let is : c.deref-2.result.now ≡ map come (sheet_conductors p) = c.deref-2.ensures.value ∙ c.in_ok-drawn.ensures ∙ ap (λ rows. map come (drawn_in p rows)) (ap (map row_now) c.deref.ensures.value ∙ c.in_ok-objects.ensures.objects) in
    subst (λ (cs : List Coming). CanRead c.args.groups.now.rows cs) (sym is) (can_read p c.args.groups.now.rows c.requires.held c.requires.fresh)

pub returns-clause-groups : goal.returns-clause-groups
returns-clause-groups c =
    let p = c.args.project.now.contents in
    let is : c.deref-2.result.now ≡ map come (sheet_conductors p) = c.deref-2.ensures.value ∙ c.in_ok-drawn.ensures ∙ ap (λ rows. map come (drawn_in p rows)) (ap (map row_now) c.deref.ensures.value ∙ c.in_ok-objects.ensures.objects) in
    are_read p c.args.groups.now.rows c.requires.held c.requires.fresh c.in_ok-rows.rows.items
    (subst (λ (cs : List Coming). LeastRows (kept_at c.args.groups.now.rows) cs c.in_ok-rows.rows.items) is c.in_ok-rows.ensures)

pub returns-clause-rising : goal.returns-clause-rising
returns-clause-rising c = groups_rise c.args.project.now.contents c.in_ok-rows.rows.items (returns-clause-groups c)
