use Rattle.std.proofs.Common.{◌+◌, ◌∷◌, drop}
use Rattle.std.proofs.lemmas.List.{drop_more}
use Rattle.group_runs.specs.Runs.{Leaving, sheets_of}
use Rattle.group_runs.specs.steps.Running.{IsGivingUp}
use Rattle.group_runs.proofs.GoneLemmas.{giving_more}
use Rattle.group_runs.proofs.runs.invalidate_left.Goals as goal

pub loop-place-preserved : goal.loop-place-preserved
loop-place-preserved c =
    let x : Leaving = c.place-item.result in
    let all = c.args.leaving.now in
    let l = c.loop-place in
    let xs = drop (l.place-index + 1) all in
    let kept = l.invariant in
    let now : IsGivingUp c.args.rows.now.entries l.rows.entries (sheets_of all) (x.0 ∷ sheets_of xs) = rw (drop_more all l.place-index x c.loop-place-test.true, ← c.place-item.is) at kept in
    giving_more c.args.rows.now.entries l.rows.entries c.invalidate.new.rows.entries (sheets_of all) x.0 (sheets_of xs) now
    c.invalidate.ensures.gone c.invalidate.ensures.others c.invalidate.ensures.counted
