use Rattle.std.proofs.Common.{◌≤◌, ◌+◌, ◌∷◌, List, drop, length, rules, subst}
use Rattle.std.specs.FinMap.{remove}
use Rattle.std.proofs.lemmas.List.{drop_all, drop_more}
use Rattle.group_runs.specs.Runs.{Leaving}
use Rattle.group_runs.specs.Sheets.{kept_at}
use Rattle.group_runs.specs.steps.Running.{IsSumming, Sums}
use Rattle.group_runs.proofs.RowLemmas.{sheet_set}
use Rattle.group_runs.proofs.RunLemmas.{next_kept, next_there, removal_within, removing_more, sums_end, sums_more}
use Rattle.group_runs.proofs.runs.remove_all.Goals as goal

pub remove_one-requires : goal.remove_one-requires
remove_one-requires c =
    let x : Leaving = c.place-item.result in
    let all = c.args.leaving.now in
    let l = c.loop-place in
    let xs = drop (l.place-index + 1) all in
    let kept = l.invariant in
    let now : IsSumming c.args.rows.now.entries l.rows.entries c.args.steps.now l.steps all (x ∷ xs) l.sum = rw (drop_more all l.place-index x c.loop-place-test.true, ← c.place-item.is) at kept in
    record {
      kept = next_kept c.args.rows.now.entries l.rows.entries c.args.steps.now l.steps all x xs now.removing;
      there = next_there c.args.rows.now.entries l.rows.entries c.args.steps.now l.steps all x xs now.removing;
    }

pub loop-place-preserved : goal.loop-place-preserved
loop-place-preserved c =
    let x : Leaving = c.place-item.result in
    let all = c.args.leaving.now in
    let l = c.loop-place in
    let xs = drop (l.place-index + 1) all in
    let kept = l.invariant in
    let now : IsSumming c.args.rows.now.entries l.rows.entries c.args.steps.now l.steps all (x ∷ xs) l.sum = rw (drop_more all l.place-index x c.loop-place-test.true, ← c.place-item.is) at kept in
    record {
      removing = removing_more c.args.rows.now.entries l.rows.entries c.args.steps.now l.steps all x xs now.removing
          c.remove_one.new.rows.entries c.remove_one.new.steps c.in_ok-size.ensures.sets c.remove_one.ensures.others c.remove_one.ensures.entry c.remove_one.ensures.steps c.remove_one.ensures.later c.remove_one.ensures.counted;
      sums = sums_more c.args.rows.now.entries l.rows.entries c.remove_one.new.rows.entries all x xs l.sum c.in_ok-size.size now.sums c.in_ok-size.ensures.size
          (sheet_set l.rows.entries c.remove_one.new.rows.entries x.0 (remove (kept_at l.rows.entries x.0) x.1) c.remove_one.ensures.others c.in_ok-size.ensures.sets.are) _ c.saturating_add-sum.ensures;
    }

pub returns-in_err-size-clause-steps : goal.returns-in_err-size-clause-steps
returns-in_err-size-clause-steps c =
    let x : Leaving = c.place-item.result in
    let all = c.args.leaving.now in
    let l = c.loop-place in
    let xs = drop (l.place-index + 1) all in
    let kept = l.invariant in
    let now : IsSumming c.args.rows.now.entries l.rows.entries c.args.steps.now l.steps all (x ∷ xs) l.sum = rw (drop_more all l.place-index x c.loop-place-test.true, ← c.place-item.is) at kept in
    λ sum sizes. removal_within c.args.rows.now.entries l.rows.entries c.args.steps.now l.steps all x xs now.removing c.remove_one.new.steps sum sizes c.remove_one.ensures.steps

pub returns-clause-sizes : goal.returns-clause-sizes
returns-clause-sizes c =
    let past : length c.args.leaving.now ≤ c.loop-place.place-index = search rules in
    sums_end c.args.rows.now.entries c.loop-place.rows.entries c.args.leaving.now c.loop-place.sum
    (subst (λ (ls : List Leaving). Sums c.args.rows.now.entries c.loop-place.rows.entries c.args.leaving.now ls c.loop-place.sum) (drop_all c.loop-place.place-index c.args.leaving.now past) c.loop-place.invariant.sums)
