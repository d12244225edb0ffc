use Rattle.web_requests.proofs.OneRequest.{one_request}
use Rattle.web_requests.proofs.laws.one_request_law.Goals as goal

pub returns : goal.returns
returns c = one_request
