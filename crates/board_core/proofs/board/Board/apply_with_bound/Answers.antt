use Rattle.std.proofs.Common.{◌<◌, ◌^◌, subst, sym, arith}
use Rattle.std.specs.FinMap.{entries}
use Rattle.std.specs.HashSet.{contains_text}
use Rattle.net_flood.proofs.Outcomes.{on_err}
use Rattle.project_model.specs.Projects.{ProjectData}
use Rattle.group_runs.specs.Sheets.{asked_sum}
use Rattle.board_core.specs.Boards.{BoardData, MayGiveUp, RenewsGroups, StaysInBound}
use Rattle.board_core.specs.steps.Kept.{IsPartly, IsRegrouped, StaysWithin}
use Rattle.board_core.specs.steps.SymbolNames.{AreKnown}
use Rattle.board_core.proofs.BoardLemmas.{board_of, may_give_up, renews_groups, stays_in_bound}
use Rattle.board_core.proofs.board.Board.apply_with_bound.Goals as goal

pub regroup-regrouped-requires-clause-known : goal.regroup-regrouped-requires-clause-known
regroup-regrouped-requires-clause-known c =
    c.learn_change.ensures.still c.with_room.new.project.contents
    (subst (λ (p : ProjectData). AreKnown (contains_text c.self.inside.names) (entries p.objects)) (sym c.with_room.ensures.contents) c.self.invariant.known)

pub returns-in_err-bound-clause-given_up : goal.returns-in_err-bound-clause-given_up
returns-in_err-bound-clause-given_up c =
    let items = c.args.change.now.items in
    let old = c.self.inside.groups in
    let new = c.regroup-regrouped.new.groups in
    let p = c.self.inside.project.contents in
    let done = subst (λ (q : ProjectData). IsPartly q items old.rows new.rows) c.with_room.ensures.contents c.in_err-bound.ensures.err in
    on_err c.from_residual-in_err-bound.result
    (subst (λ (v : BoardData). MayGiveUp v items (board_of c.with_room.new.project.contents new.rows new.steps (asked_sum new.rows))) c.self.view_is
    (may_give_up p c.with_room.new.project.contents items old.rows new.rows old.steps new.steps (asked_sum old.rows) (asked_sum new.rows) c.requires.distinct done))

pub returns-in_err-bound-clause-few : goal.returns-in_err-bound-clause-few
returns-in_err-bound-clause-few c =
    let items = c.args.change.now.items in
    let old = c.self.inside.groups in
    let new = c.regroup-regrouped.new.groups in
    let p = c.self.inside.project.contents in
    let within = subst (λ (q : ProjectData). StaysWithin q items old.rows old.steps new.steps) c.with_room.ensures.contents c.regroup-regrouped.ensures.few in
    let small : new.steps < 2 ^ 64 = let range = c.steps.type_inv in let same = c.steps.ensures.steps in omega arith in
    subst (λ (v : BoardData). StaysInBound v items (board_of p new.rows new.steps 0)) c.self.view_is
    (stays_in_bound p p items old.rows new.rows old.steps new.steps (asked_sum old.rows) 0 c.requires.distinct small within)

pub returns-clause-renewed : goal.returns-clause-renewed
returns-clause-renewed c =
    let items = c.args.change.now.items in
    let old = c.self.inside.groups in
    let new = c.regroup-regrouped.new.groups in
    let p = c.self.inside.project.contents in
    let done = subst (λ (q : ProjectData). IsRegrouped q items old.rows new.rows) c.with_room.ensures.contents c.in_ok-bound.ensures.ok in
    subst (λ (v : BoardData). RenewsGroups v items (board_of p new.rows new.steps 0)) c.self.view_is
    (renews_groups p p items old.rows new.rows old.steps new.steps (asked_sum old.rows) 0 done)

pub returns-clause-few : goal.returns-clause-few
returns-clause-few c =
    let items = c.args.change.now.items in
    let old = c.self.inside.groups in
    let new = c.regroup-regrouped.new.groups in
    let p = c.self.inside.project.contents in
    let within = subst (λ (q : ProjectData). StaysWithin q items old.rows old.steps new.steps) c.with_room.ensures.contents c.regroup-regrouped.ensures.few in
    let small : new.steps < 2 ^ 64 = let range = c.steps.type_inv in let same = c.steps.ensures.steps in omega arith in
    subst (λ (v : BoardData). StaysInBound v items (board_of p new.rows new.steps 0)) c.self.view_is
    (stays_in_bound p p items old.rows new.rows old.steps new.steps (asked_sum old.rows) 0 c.requires.distinct small within)
