use Rattle.std.proofs.Common.{get_or}
use Rattle.link_classes.proofs.RowLemmas.{group_found}
use Rattle.link_classes.proofs.RunLemmas.{no_row, ties_row}
use Rattle.link_classes.proofs.runs.tie_key.Goals as goal

pub returns-clause-ties : goal.returns-clause-ties
returns-clause-ties c = λ tied.
    let rows = c.args.groups.now in
    let group = (get_or rows c.in-Some.at no_row).1 in
    let has =
    group_found rows c.requires.rising c.args.key.now c.in-Some.at c.in-Some.ensures no_row in
    ties_row rows c.requires.rising c.args.place c.args.first.now c.tie.new.self group
    c.in-Some-group_row.head c.in-Some-group_row.ensures c.tie.ensures.marks
    c.args.pairs.now.items c.tie.new.pairs.items c.args.key.now has c.tie.ensures.pairs
