use Rattle.std.proofs.Common.{◌≡◌, ◌<◌, ◌≤◌, ⊎_elim, subst, arith}
use Rattle.std.proofs.lemmas.Bool.{cases_lt}
use Rattle.desk_entries.specs.steps.Ranges.{IsInRange}
use Rattle.desk_entries.proofs.laws.tell_ranges.Goals as goal

pub loop-id-preserved : goal.loop-id-preserved
loop-id-preserved c =
    λ i lt.
    ⊎_elim
    (λ (below : i < c.loop-id.id). c.loop-id.invariant i below)
    (λ (le : c.loop-id.id ≤ i). let same : c.loop-id.id ≡ i = omega arith in subst (IsInRange c.args.project.now.contents) same c.tell_range.ensures)
    (cases_lt i c.loop-id.id)

pub returns : goal.returns
returns c =
    λ id small.
    let most : id ≤ 4294967295 = small in
    ⊎_elim
    (λ (lt : id < 4294967295). c.loop-id.invariant id (omega (arith, c.loop-id-test.false, lt)))
    (λ (le : 4294967295 ≤ id). let same : 4294967295 ≡ id = omega arith in subst (IsInRange c.args.project.now.contents) same c.tell_range-2.ensures)
    (cases_lt id 4294967295)
