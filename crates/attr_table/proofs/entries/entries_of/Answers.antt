use Rattle.std.proofs.Common.{ap, length, arith}
use Rattle.attr_table.specs.SheetTables.{components_in}
use Rattle.attr_table.proofs.FewLemmas.{below_both}
use Rattle.attr_table.proofs.entries.entries_of.Goals as goal

pub entries_from-requires-clause-last : goal.entries_from-requires-clause-last
entries_from-requires-clause-last c =
    let e = c.in_ok-components.ensures in
    let many = length c.in_ok-components.components.items in
    let count = ap length c.as_slice.ensures.value in
    let last = below_both c.args.first many (length (components_in c.args.project.now.contents c.args.sheet.now)) (length c.args.table.now) 4294967295 e.few e.rows c.requires.last in
    omega (arith, count, last)
