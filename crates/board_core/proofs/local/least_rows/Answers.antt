use Rattle.std.proofs.Common.{refl, ◌+◌, List, take, sym, subst, arith}
use Rattle.geda_geom.specs.declared.conductor.Key.{Key}
use Rattle.group_runs.specs.Runs.{Coming}
use Rattle.group_runs.specs.Sheets.{kept_at}
use Rattle.board_core.specs.steps.Reading.{LeastRows}
use Rattle.board_core.proofs.LocalLemmas.{in_at, rows_more}
use Rattle.board_core.proofs.local.least_rows.Goals as goal

pub group_of-requires : goal.group_of-requires
group_of-requires c =
    let one : Coming = c.one-item.result in
    let can = c.requires one (in_at c.args.drawn.now c.loop-one.one-index one (omega arith) c.one-item.is) in
    record { kept = can.0; is_there = can.1 }

pub loop-one-preserved : goal.loop-one-preserved
loop-one-preserved c =
    let one : Coming = c.one-item.result in
    let drawn = c.args.drawn.now in
    let i = c.loop-one.one-index in
    subst (λ (rows : List (Key × Key)). LeastRows (kept_at c.args.groups.now.rows) (take (i + 1) drawn) rows) (sym c.in_ok-push.ensures.items)
    (rows_more (kept_at c.args.groups.now.rows) drawn i one c.loop-one.rows.items (one.1.0, c.group_of.result) (omega arith) c.one-item.is c.loop-one.invariant refl c.group_of.ensures.least)
