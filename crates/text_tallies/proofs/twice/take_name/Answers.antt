use Rattle.std.proofs.Common.{◌≡◌, true, rules}
use Rattle.text_tallies.specs.steps.KeySteps.{is_seen, name_key}
use Rattle.text_tallies.proofs.KeyLemmas.{name_adds, name_seen}
use Rattle.text_tallies.proofs.twice.take_name.Goals as goal

pub returns-then-contains-clause-twice : goal.returns-then-contains-clause-twice
returns-then-contains-clause-twice c =
    let met : is_seen c.args.seen.now (name_key c.args.name.now) ≡ true = search rules in
    let updates = rw c.in_ok-clone.ensures.cases at c.in_ok-insert.ensures.updates in
    name_seen c.args.name.now c.args.seen.now c.args.twice.now c.insert.new.self met updates

pub returns-clause-seen : goal.returns-clause-seen
returns-clause-seen c =
    let updates = rw c.name_key-key.ensures at c.in_ok-insert-2.ensures.updates in
    name_adds c.args.name.now c.args.seen.now c.insert-2.new.self updates
