use Rattle.std.proofs.Common.{◌≡◌, true, rules}
use Rattle.drc_rules.specs.steps.Pins.{is_seen}
use Rattle.drc_rules.proofs.PinLemmas.{pair_seen}
use Rattle.drc_rules.proofs.pairs_on_two.add_if_seen.Goals as goal

pub returns-in_ok-insert : goal.returns-in_ok-insert
returns-in_ok-insert c =
    let met : is_seen c.args.seen.now c.args.pair ≡ true = search rules in
    pair_seen c.args.pair c.args.seen.now c.args.twice.now c.insert.new.self met c.in_ok-insert.ensures.updates
