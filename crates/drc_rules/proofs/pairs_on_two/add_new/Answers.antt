use Rattle.drc_rules.proofs.PinLemmas.{pair_adds}
use Rattle.drc_rules.proofs.pairs_on_two.add_new.Goals as goal

pub returns-clause-adds : goal.returns-clause-adds
returns-clause-adds c = pair_adds c.args.pair c.args.seen.now c.insert.new.self c.in_ok-added.ensures.updates
