use Rattle.sym_check.proofs.OneList as lemmas
use Rattle.sym_check.proofs.laws.one_list.Goals as goal

pub returns : goal.returns
returns c = lemmas.one_list
