use Rattle.std.proofs.Common.{◌∙◌, sym, ap}
use Rattle.hall_server.specs.Transcripts.{end_reply}
use Rattle.hall_server.proofs.EndTexts.{bad_head_bytes, large_head_bytes, large_body_bytes, unsupported_bytes, foreign_bytes}
use Rattle.hall_server.proofs.messages.end_text.Goals as goal

pub returns-in-BadHead : goal.returns-in-BadHead
returns-in-BadHead c = bad_head_bytes ∙ ap end_reply (sym c.in-BadHead.is)

pub returns-in-LargeHead : goal.returns-in-LargeHead
returns-in-LargeHead c = large_head_bytes ∙ ap end_reply (sym c.in-LargeHead.is)

pub returns-in-LargeBody : goal.returns-in-LargeBody
returns-in-LargeBody c = large_body_bytes ∙ ap end_reply (sym c.in-LargeBody.is)

pub returns-in-Unsupported : goal.returns-in-Unsupported
returns-in-Unsupported c = unsupported_bytes ∙ ap end_reply (sym c.in-Unsupported.is)

pub returns-in-Foreign : goal.returns-in-Foreign
returns-in-Foreign c = foreign_bytes ∙ ap end_reply (sym c.in-Foreign.is)
