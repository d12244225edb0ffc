use Rattle.std.proofs.Common.{◌≡◌, true, rules}
use Rattle.text_tallies.specs.steps.KeySteps.{is_seen}
use Rattle.text_tallies.proofs.KeyLemmas.{pair_adds, pair_seen}
use Rattle.text_tallies.proofs.twice.take_pair.Goals as goal

pub returns-then-contains-clause-twice : goal.returns-then-contains-clause-twice
returns-then-contains-clause-twice c =
    let met : is_seen c.args.seen.now c.args.pair ≡ true = search rules in
    pair_seen c.args.pair c.args.seen.now c.args.twice.now c.insert.new.self met c.in_ok-insert.ensures.updates

pub returns-clause-seen : goal.returns-clause-seen
returns-clause-seen c = pair_adds c.args.pair c.args.seen.now c.insert-2.new.self c.in_ok-insert-2.ensures.updates
