use Rattle.std.proofs.Common.{◌+◌, ◌∷◌, drop}
use Rattle.std.proofs.lemmas.List.{drop_more}
use Rattle.group_runs.specs.Runs.{Coming, sheets_in}
use Rattle.group_runs.specs.steps.Running.{IsGivingUp}
use Rattle.group_runs.proofs.GoneLemmas.{giving_more}
use Rattle.group_runs.proofs.runs.invalidate_coming.Goals as goal

pub loop-one-preserved : goal.loop-one-preserved
loop-one-preserved c =
    let x : Coming = c.one-item.result in
    let all = c.args.coming.now in
    let l = c.loop-one in
    let xs = drop (l.one-index + 1) all in
    let kept = l.invariant in
    let now : IsGivingUp c.args.rows.now.entries l.rows.entries (sheets_in all) (x.0 ∷ sheets_in xs) = rw (drop_more all l.one-index x c.loop-one-test.true, ← c.one-item.is) at kept in
    giving_more c.args.rows.now.entries l.rows.entries c.invalidate.new.rows.entries (sheets_in all) x.0 (sheets_in xs) now
    c.invalidate.ensures.gone c.invalidate.ensures.others c.invalidate.ensures.counted
