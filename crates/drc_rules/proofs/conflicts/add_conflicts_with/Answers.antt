use Rattle.std.proofs.Common.{◌≡◌, rules}
use Rattle.drc_rules.proofs.ConflictLemmas.{none_found}
use Rattle.drc_rules.proofs.conflicts.add_conflicts_with.Goals as goal

pub returns-then-first-eq0 : goal.returns-then-first-eq0
returns-then-first-eq0 c =
    let none : c.args.first.count ≡ 0 = search rules in
    none_found c.args.found.now.items c.args.matrix.now c.args.name.now c.args.others.now c.args.first none
