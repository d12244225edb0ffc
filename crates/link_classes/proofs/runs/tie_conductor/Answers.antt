use Rattle.std.proofs.Common.{◌≡◌, true, is_some, refl, rules}
use Rattle.link_classes.proofs.RunLemmas.{ties_entered}
use Rattle.link_classes.proofs.runs.tie_conductor.Goals as goal

pub returns-clause-ties : goal.returns-clause-ties
returns-clause-ties c = λ tied.
    let row = c.args.conductor.now in
    let drawn : is_some row.shape ≡ true = search rules in
    ties_entered c.args.groups.now row.instance c.args.place c.args.first.now c.enter.new.self
    (c.enter.ensures.enters (search rules)) c.enter.ensures.entries
    row c.args.pairs.now.items c.tie_key.new.first c.tie_key.new.pairs.items refl drawn
    (c.tie_key.ensures.ties tied)
