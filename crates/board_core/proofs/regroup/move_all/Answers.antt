use Rattle.std.proofs.Common.{◌≡◌, ◌≤◌, ◌+◌, ◌++◌, List, length, map, sym, ap, subst, ◌∙◌}
use Rattle.net_flood.proofs.Outcomes.{on_ok_two}
use Rattle.std.proofs.lemmas.Result.{IfOk-weaker}
use Rattle.board_core.specs.Bounds.{IsBound}
use Rattle.project_model.specs.Tables.{row_now}
use Rattle.group_runs.specs.Runs.{AreFree, AreThere, Coming, IsRunBound, Leaving, SizesSum, sheets_in, sheets_of, with_all, without}
use Rattle.group_runs.specs.Sheets.{AreGone, AreKept, KeepsUntouched, kept_at}
use Rattle.board_core.specs.steps.Kept.{AreRenewed, Renews, sheets_at, sheets_named, touched_sheets}
use Rattle.board_core.specs.steps.Standing.{changed_rows, coming_rows}
use Rattle.board_core.proofs.GatherLemmas.{on_err_two}
use Rattle.board_core.proofs.RegroupLemmas.{all_free, all_there, bounded, come_kept, cs, left_kept, ls, moved_err, moved_ok, within}
use Rattle.board_core.proofs.regroup.move_all.Goals as goal

pub apply-requires-clause-leaving_kept : goal.apply-requires-clause-leaving_kept
apply-requires-clause-leaving_kept c =
    let p = c.args.project.now.contents in
    let items = c.args.change.now.items in
    let old = c.args.groups.now in
    let mid = c.renew_touched.new.groups in
    let before : map row_now c.deref.result.now ≡ changed_rows p items = ap (map row_now) c.deref.ensures.value ∙ c.requires.moves.before_are in
    let after : map row_now c.deref-2.result.now ≡ coming_rows p items = ap (map row_now) c.deref-2.ensures.value ∙ c.requires.moves.after_are in
    let named : c.as_slice-items.result.now ≡ items = c.as_slice-items.ensures in
    let same : sheets_at (map row_now c.deref.result.now) ++ (sheets_at (map row_now c.deref-2.result.now) ++ sheets_named c.as_slice-items.result.now) ≡ touched_sheets p items = λ i. sheets_at (before i) ++ (sheets_at (after i) ++ sheets_named (named i)) in
    let renews = subst (Renews p old.rows mid.rows old.steps mid.steps) same c.renew_touched.ensures.renews in
    let renewed = subst (AreRenewed old.rows mid.rows) same c.in_ok-renew_touched.ensures.renewed in
    let leaving : c.deref-3.result.now ≡ ls p items = c.deref-3.ensures.value ∙ c.requires.moves.left in
    let coming : c.deref-4.result.now ≡ cs p items = c.deref-4.ensures.value ∙ c.requires.moves.came in
    subst (λ (l : List Leaving). AreKept mid.rows (sheets_of l)) (sym leaving) (left_kept p items old.rows mid.rows old.steps mid.steps renews renewed)

pub apply-requires-clause-coming_kept : goal.apply-requires-clause-coming_kept
apply-requires-clause-coming_kept c =
    let p = c.args.project.now.contents in
    let items = c.args.change.now.items in
    let old = c.args.groups.now in
    let mid = c.renew_touched.new.groups in
    let before : map row_now c.deref.result.now ≡ changed_rows p items = ap (map row_now) c.deref.ensures.value ∙ c.requires.moves.before_are in
    let after : map row_now c.deref-2.result.now ≡ coming_rows p items = ap (map row_now) c.deref-2.ensures.value ∙ c.requires.moves.after_are in
    let named : c.as_slice-items.result.now ≡ items = c.as_slice-items.ensures in
    let same : sheets_at (map row_now c.deref.result.now) ++ (sheets_at (map row_now c.deref-2.result.now) ++ sheets_named c.as_slice-items.result.now) ≡ touched_sheets p items = λ i. sheets_at (before i) ++ (sheets_at (after i) ++ sheets_named (named i)) in
    let renews = subst (Renews p old.rows mid.rows old.steps mid.steps) same c.renew_touched.ensures.renews in
    let renewed = subst (AreRenewed old.rows mid.rows) same c.in_ok-renew_touched.ensures.renewed in
    let leaving : c.deref-3.result.now ≡ ls p items = c.deref-3.ensures.value ∙ c.requires.moves.left in
    let coming : c.deref-4.result.now ≡ cs p items = c.deref-4.ensures.value ∙ c.requires.moves.came in
    subst (λ (d : List Coming). AreKept mid.rows (sheets_in d)) (sym coming) (come_kept p items old.rows mid.rows old.steps mid.steps renews renewed)

pub apply-requires-clause-there : goal.apply-requires-clause-there
apply-requires-clause-there c =
    let p = c.args.project.now.contents in
    let items = c.args.change.now.items in
    let old = c.args.groups.now in
    let mid = c.renew_touched.new.groups in
    let before : map row_now c.deref.result.now ≡ changed_rows p items = ap (map row_now) c.deref.ensures.value ∙ c.requires.moves.before_are in
    let after : map row_now c.deref-2.result.now ≡ coming_rows p items = ap (map row_now) c.deref-2.ensures.value ∙ c.requires.moves.after_are in
    let named : c.as_slice-items.result.now ≡ items = c.as_slice-items.ensures in
    let same : sheets_at (map row_now c.deref.result.now) ++ (sheets_at (map row_now c.deref-2.result.now) ++ sheets_named c.as_slice-items.result.now) ≡ touched_sheets p items = λ i. sheets_at (before i) ++ (sheets_at (after i) ++ sheets_named (named i)) in
    let renews = subst (Renews p old.rows mid.rows old.steps mid.steps) same c.renew_touched.ensures.renews in
    let renewed = subst (AreRenewed old.rows mid.rows) same c.in_ok-renew_touched.ensures.renewed in
    let leaving : c.deref-3.result.now ≡ ls p items = c.deref-3.ensures.value ∙ c.requires.moves.left in
    let coming : c.deref-4.result.now ≡ cs p items = c.deref-4.ensures.value ∙ c.requires.moves.came in
    subst (λ (l : List Leaving). AreThere (kept_at mid.rows) l) (sym leaving) (all_there p items old.rows mid.rows old.steps mid.steps renews renewed)

pub apply-requires-clause-free : goal.apply-requires-clause-free
apply-requires-clause-free c =
    let p = c.args.project.now.contents in
    let items = c.args.change.now.items in
    let old = c.args.groups.now in
    let mid = c.renew_touched.new.groups in
    let before : map row_now c.deref.result.now ≡ changed_rows p items = ap (map row_now) c.deref.ensures.value ∙ c.requires.moves.before_are in
    let after : map row_now c.deref-2.result.now ≡ coming_rows p items = ap (map row_now) c.deref-2.ensures.value ∙ c.requires.moves.after_are in
    let named : c.as_slice-items.result.now ≡ items = c.as_slice-items.ensures in
    let same : sheets_at (map row_now c.deref.result.now) ++ (sheets_at (map row_now c.deref-2.result.now) ++ sheets_named c.as_slice-items.result.now) ≡ touched_sheets p items = λ i. sheets_at (before i) ++ (sheets_at (after i) ++ sheets_named (named i)) in
    let renews = subst (Renews p old.rows mid.rows old.steps mid.steps) same c.renew_touched.ensures.renews in
    let renewed = subst (AreRenewed old.rows mid.rows) same c.in_ok-renew_touched.ensures.renewed in
    let leaving : c.deref-3.result.now ≡ ls p items = c.deref-3.ensures.value ∙ c.requires.moves.left in
    let coming : c.deref-4.result.now ≡ cs p items = c.deref-4.ensures.value ∙ c.requires.moves.came in
    subst (λ (l : List Leaving). AreFree (without (kept_at mid.rows) l) c.deref-4.result.now) (sym leaving)
    (subst (λ (d : List Coming). AreFree (without (kept_at mid.rows) (ls p items)) d) (sym coming) (all_free p items old.rows mid.rows old.steps mid.steps renews renewed c.requires.can_apply.distinct))

pub returns-clause-ok : goal.returns-clause-ok
returns-clause-ok c =
    let p = c.args.project.now.contents in
    let items = c.args.change.now.items in
    let old = c.args.groups.now in
    let mid = c.renew_touched.new.groups in
    let before : map row_now c.deref.result.now ≡ changed_rows p items = ap (map row_now) c.deref.ensures.value ∙ c.requires.moves.before_are in
    let after : map row_now c.deref-2.result.now ≡ coming_rows p items = ap (map row_now) c.deref-2.ensures.value ∙ c.requires.moves.after_are in
    let named : c.as_slice-items.result.now ≡ items = c.as_slice-items.ensures in
    let same : sheets_at (map row_now c.deref.result.now) ++ (sheets_at (map row_now c.deref-2.result.now) ++ sheets_named c.as_slice-items.result.now) ≡ touched_sheets p items = λ i. sheets_at (before i) ++ (sheets_at (after i) ++ sheets_named (named i)) in
    let renews = subst (Renews p old.rows mid.rows old.steps mid.steps) same c.renew_touched.ensures.renews in
    let renewed = subst (AreRenewed old.rows mid.rows) same c.in_ok-renew_touched.ensures.renewed in
    let leaving : c.deref-3.result.now ≡ ls p items = c.deref-3.ensures.value ∙ c.requires.moves.left in
    let coming : c.deref-4.result.now ≡ cs p items = c.deref-4.ensures.value ∙ c.requires.moves.came in
    let new = c.apply.new.self in
    let others = subst (λ (l : List Leaving). KeepsUntouched l (cs p items) mid.rows new.rows) leaving (subst (λ (d : List Coming). KeepsUntouched c.deref-3.result.now d mid.rows new.rows) coming c.apply.ensures.others) in
    on_ok_two c.apply.result
    (λ still are. moved_ok p items old.rows mid.rows old.steps mid.steps renews renewed new.rows others c.requires.can_apply.distinct still (are ∙ (λ i. with_all (without (kept_at mid.rows) (leaving i)) (coming i))))
    c.apply.ensures.kept c.apply.ensures.conductors

pub returns-clause-err : goal.returns-clause-err
returns-clause-err c =
    let p = c.args.project.now.contents in
    let items = c.args.change.now.items in
    let old = c.args.groups.now in
    let mid = c.renew_touched.new.groups in
    let before : map row_now c.deref.result.now ≡ changed_rows p items = ap (map row_now) c.deref.ensures.value ∙ c.requires.moves.before_are in
    let after : map row_now c.deref-2.result.now ≡ coming_rows p items = ap (map row_now) c.deref-2.ensures.value ∙ c.requires.moves.after_are in
    let named : c.as_slice-items.result.now ≡ items = c.as_slice-items.ensures in
    let same : sheets_at (map row_now c.deref.result.now) ++ (sheets_at (map row_now c.deref-2.result.now) ++ sheets_named c.as_slice-items.result.now) ≡ touched_sheets p items = λ i. sheets_at (before i) ++ (sheets_at (after i) ++ sheets_named (named i)) in
    let renews = subst (Renews p old.rows mid.rows old.steps mid.steps) same c.renew_touched.ensures.renews in
    let renewed = subst (AreRenewed old.rows mid.rows) same c.in_ok-renew_touched.ensures.renewed in
    let leaving : c.deref-3.result.now ≡ ls p items = c.deref-3.ensures.value ∙ c.requires.moves.left in
    let coming : c.deref-4.result.now ≡ cs p items = c.deref-4.ensures.value ∙ c.requires.moves.came in
    let new = c.apply.new.self in
    let others = subst (λ (l : List Leaving). KeepsUntouched l (cs p items) mid.rows new.rows) leaving (subst (λ (d : List Coming). KeepsUntouched c.deref-3.result.now d mid.rows new.rows) coming c.apply.ensures.others) in
    on_err_two c.apply.result
    (λ left came. moved_err p items old.rows mid.rows old.steps mid.steps renews renewed new.rows others
    (subst (λ (l : List Leaving). AreGone (sheets_of l) new.rows) leaving left) (subst (λ (d : List Coming). AreGone (sheets_in d) new.rows) coming came) c.apply.ensures.entries)
    c.apply.ensures.left_gone c.apply.ensures.come_gone

pub returns-clause-few : goal.returns-clause-few
returns-clause-few c =
    let p = c.args.project.now.contents in
    let items = c.args.change.now.items in
    let old = c.args.groups.now in
    let mid = c.renew_touched.new.groups in
    let before : map row_now c.deref.result.now ≡ changed_rows p items = ap (map row_now) c.deref.ensures.value ∙ c.requires.moves.before_are in
    let after : map row_now c.deref-2.result.now ≡ coming_rows p items = ap (map row_now) c.deref-2.ensures.value ∙ c.requires.moves.after_are in
    let named : c.as_slice-items.result.now ≡ items = c.as_slice-items.ensures in
    let same : sheets_at (map row_now c.deref.result.now) ++ (sheets_at (map row_now c.deref-2.result.now) ++ sheets_named c.as_slice-items.result.now) ≡ touched_sheets p items = λ i. sheets_at (before i) ++ (sheets_at (after i) ++ sheets_named (named i)) in
    let renews = subst (Renews p old.rows mid.rows old.steps mid.steps) same c.renew_touched.ensures.renews in
    let renewed = subst (AreRenewed old.rows mid.rows) same c.in_ok-renew_touched.ensures.renewed in
    let leaving : c.deref-3.result.now ≡ ls p items = c.deref-3.ensures.value ∙ c.requires.moves.left in
    let coming : c.deref-4.result.now ≡ cs p items = c.deref-4.ensures.value ∙ c.requires.moves.came in
    let new = c.apply.new.self in
    within p items old.rows mid.rows old.steps mid.steps renews renewed new.steps
    (λ sum sizes. subst (λ (d : List Coming). new.steps ≤ mid.steps + (sum + length d)) coming
    (c.apply.ensures.steps sum (subst (λ (l : List Leaving). SizesSum (kept_at mid.rows) l sum) (sym leaving) sizes)))

pub returns-clause-bound : goal.returns-clause-bound
returns-clause-bound c =
    let p = c.args.project.now.contents in
    let items = c.args.change.now.items in
    let old = c.args.groups.now in
    let mid = c.renew_touched.new.groups in
    let before : map row_now c.deref.result.now ≡ changed_rows p items = ap (map row_now) c.deref.ensures.value ∙ c.requires.moves.before_are in
    let after : map row_now c.deref-2.result.now ≡ coming_rows p items = ap (map row_now) c.deref-2.ensures.value ∙ c.requires.moves.after_are in
    let named : c.as_slice-items.result.now ≡ items = c.as_slice-items.ensures in
    let same : sheets_at (map row_now c.deref.result.now) ++ (sheets_at (map row_now c.deref-2.result.now) ++ sheets_named c.as_slice-items.result.now) ≡ touched_sheets p items = λ i. sheets_at (before i) ++ (sheets_at (after i) ++ sheets_named (named i)) in
    let renews = subst (Renews p old.rows mid.rows old.steps mid.steps) same c.renew_touched.ensures.renews in
    let renewed = subst (AreRenewed old.rows mid.rows) same c.in_ok-renew_touched.ensures.renewed in
    let leaving : c.deref-3.result.now ≡ ls p items = c.deref-3.ensures.value ∙ c.requires.moves.left in
    let coming : c.deref-4.result.now ≡ cs p items = c.deref-4.ensures.value ∙ c.requires.moves.came in
    IfOk-weaker c.apply.result (IsRunBound (kept_at mid.rows) c.deref-3.result.now (length c.deref-4.result.now)) (IsBound p items)
    (λ bound is. bounded p items old.rows mid.rows old.steps mid.steps renews renewed bound (subst (λ (l : List Leaving). IsRunBound (kept_at mid.rows) l (length (cs p items)) bound) leaving
    (subst (λ (d : List Coming). IsRunBound (kept_at mid.rows) c.deref-3.result.now (length d) bound) coming is))) c.apply.ensures.bound
