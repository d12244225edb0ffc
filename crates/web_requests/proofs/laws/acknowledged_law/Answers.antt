use Rattle.web_requests.proofs.Held.{acknowledged}
use Rattle.web_requests.proofs.laws.acknowledged_law.Goals as goal

pub returns : goal.returns
returns c = acknowledged
