use Rattle.web_requests.proofs.ReplyBytes.{no_entry_bytes}
use Rattle.web_requests.proofs.fixed.no_entry_text.Goals as goal

pub returns : goal.returns
returns c = no_entry_bytes
