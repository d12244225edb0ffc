use Rattle.std.proofs.Common.{ℕ, true, arith, length, subst, sym, ◌≡◌}
use Rattle.std.proofs.lemmas.List.Elements.{All-get_or}
use Rattle.sheet_groups.specs.steps.Rows.{ArePoints, AreRowsOf, IsNear}
use Rattle.sheet_groups.proofs.MarkLemmas.{next_rows, no_rows}
use Rattle.sheet_groups.proofs.TouchLemmas.{seen_points}
use Rattle.sheet_groups.proofs.marks.marked_columns.Goals as goal

pub loop-place-init : goal.loop-place-init
loop-place-init c = no_rows true c.args.conductors.now c.in_ok-rows.rows.items

pub mark-requires : goal.mark-requires
mark-requires c =
    let near = All-get_or IsNear c.args.conductors.now c.loop-place.place _ c.loop-place-test.true c.requires.each in
    subst ArePoints (sym c.seen-shape.ensures) (seen_points true _ near.points)

pub loop-place-preserved : goal.loop-place-preserved
loop-place-preserved c =
    next_rows true c.args.conductors.now c.loop-place.place c.loop-place.rows.items c.mark.new.rows.items _ c.seen-shape.result c.seen-shape.ensures c.mark.ensures.marked c.mark.ensures.kept
    c.loop-place.invariant

pub returns : goal.returns
returns c =
    let all : c.loop-place.place ≡ length c.args.conductors.now = omega arith in
    subst (λ (n : ℕ). AreRowsOf true c.args.conductors.now n c.loop-place.rows.items) all c.loop-place.invariant
