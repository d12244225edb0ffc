use Rattle.web_heads.proofs.Once.{one_cut}
use Rattle.web_heads.proofs.laws.one_list_law.Goals as goal

pub returns : goal.returns
returns c = one_cut
