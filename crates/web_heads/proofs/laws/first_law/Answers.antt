use Rattle.web_heads.proofs.Once.{first_cut}
use Rattle.web_heads.proofs.laws.first_law.Goals as goal

pub returns : goal.returns
returns c = first_cut
