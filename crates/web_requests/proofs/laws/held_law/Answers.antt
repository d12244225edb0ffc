use Rattle.web_requests.proofs.Held.{held}
use Rattle.web_requests.proofs.laws.held_law.Goals as goal

pub returns : goal.returns
returns c = held
