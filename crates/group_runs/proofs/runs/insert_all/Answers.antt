use Rattle.std.proofs.Common.{◌+◌, ◌∷◌, drop, subst}
use Rattle.std.specs.FinMap.{insert}
use Rattle.std.proofs.lemmas.List.{drop_more}
use Rattle.group_runs.specs.Runs.{Coming}
use Rattle.group_runs.specs.Sheets.{kept_at}
use Rattle.group_runs.specs.steps.Running.{IsInserting, SetsSheet}
use Rattle.group_runs.proofs.RunLemmas.{inserting_more, next_free, place_kept}
use Rattle.group_runs.proofs.runs.insert_all.Goals as goal

pub insert_one-requires : goal.insert_one-requires
insert_one-requires c =
    let x : Coming = c.one-item.result in
    let all = c.args.coming.now in
    let l = c.loop-one in
    let xs = drop (l.one-index + 1) all in
    let kept = l.invariant in
    let now : IsInserting c.args.rows.now.entries l.rows.entries c.args.steps.now l.steps all (x ∷ xs) = rw (drop_more all l.one-index x c.loop-one-test.true, ← c.one-item.is) at kept in
    record {
      kept = place_kept c.args.rows.now.entries l.rows.entries c.args.steps.now l.steps all x xs now;
      free = next_free c.args.rows.now.entries l.rows.entries c.args.steps.now l.steps all x xs now;
    }

pub loop-one-preserved : goal.loop-one-preserved
loop-one-preserved c =
    let x : Coming = c.one-item.result in
    let all = c.args.coming.now in
    let l = c.loop-one in
    let xs = drop (l.one-index + 1) all in
    let kept = l.invariant in
    let now : IsInserting c.args.rows.now.entries l.rows.entries c.args.steps.now l.steps all (x ∷ xs) = rw (drop_more all l.one-index x c.loop-one-test.true, ← c.one-item.is) at kept in
    inserting_more c.args.rows.now.entries l.rows.entries c.args.steps.now l.steps all x xs now
    c.insert_one.new.rows.entries c.insert_one.new.steps
    (subst (λ v. SetsSheet x.0 (insert (kept_at l.rows.entries x.0) x.1.0 v) c.insert_one.new.rows.entries) c.new.ensures.sealed c.in_ok-insert_one.ensures.sets)
    c.insert_one.ensures.others c.insert_one.ensures.entry c.insert_one.ensures.steps c.insert_one.ensures.later c.insert_one.ensures.counted
