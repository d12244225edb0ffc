use Rattle.web_requests.proofs.ReplyBytes.{no_memory_bytes}
use Rattle.web_requests.proofs.fixed.no_memory_text.Goals as goal

pub returns : goal.returns
returns c = no_memory_bytes
