use Rattle.std.proofs.Common.{ap, map, arith, ◌∙◌}
use Rattle.std.proofs.lemmas.List.{take_all}
use Rattle.gaf_work.proofs.RowIds.{keys_from_rows}
use Rattle.gaf_work.proofs.live.LiveIds.of.Goals as goal

pub returns : goal.returns
returns c =
    let rows = c.deref-row-items.result.now in
    let all = take_all c.loop-row.row-index rows (omega (arith, c.loop-row-test.false)) in
    c.loop-row.invariant ∙ ap (map (λ row. row.0)) (all ∙ c.deref-row-items.ensures.value)
    ∙ keys_from_rows c.args.project.now.contents.objects c.in_ok-rows.rows.items c.in_ok-rows.ensures.objects
