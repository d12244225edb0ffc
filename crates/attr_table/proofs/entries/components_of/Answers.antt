use Rattle.std.proofs.Common.{◌+◌, List, ap, length, arith}
use Rattle.std.proofs.lemmas.List.{length-map}
use Rattle.csv.specs.Records.{Row, fields_of}
use Rattle.attr_table.specs.steps.Rows.{records_now}
use Rattle.attr_table.proofs.FewLemmas.{filled_few, filled_rows}
use Rattle.attr_table.proofs.Reading.{narrow_more}
use Rattle.attr_table.proofs.entries.components_of.Goals as goal

pub fill-requires-clause-narrow : goal.fill-requires-clause-narrow
fill-requires-clause-narrow c =
    rw c.as_slice.ensures.value (narrow_more (length c.args.table.now + 1) 4294967296 (records_now c.in_ok-records.records.items) (let s = c.requires.short in omega (arith, s)) c.in_ok-records.ensures.narrow)

pub returns-clause-few : goal.returns-clause-few
returns-clause-few c =
    let e = c.in_ok-components.ensures in
    let few = filled_few c.args.project.now.contents c.args.sheet.now (records_now c.as_slice.result.now) e.0 in
    let count = ap length e.1 in
    omega (arith, few, count)

pub returns-clause-rows : goal.returns-clause-rows
returns-clause-rows c =
    let e = c.in_ok-components.ensures in
    let rows = filled_rows c.args.project.now.contents c.args.sheet.now (records_now c.as_slice.result.now) in
    let count = ap length e.1 in
    let many = ap (λ (v : List Row). length (records_now v)) c.as_slice.ensures.value in
    let same = length-map c.in_ok-records.records.items fields_of in
    let short = c.in_ok-records.ensures.few in
    omega (arith, rows, count, many, same, short)
