use Rattle.drc_rules.proofs.PinLemmas.{pair_adds}
use Rattle.drc_rules.proofs.pairs_on_two.add_pair.Goals as goal

pub returns : goal.returns
returns c = pair_adds c.args.pair c.args.seen.now c.insert.new.self c.in_ok-insert.ensures.updates
