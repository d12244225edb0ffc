use Rattle.sym_check.proofs.LawLemmas as lemmas
use Rattle.sym_check.proofs.laws.slots_hold.Goals as goal

pub returns : goal.returns
returns c = lemmas.slots_hold c.args.symbol.now
