-- The reply to a report, which stands once for all who ask (own).
use Rattle.std.specs.Prelude.{ℕ, List, false, Option, Some, None}
use Rattle.std.specs.declared.sync.Arc.{Arc}
use Rattle.std.specs.Arc.{arc_value}
use Rattle.web_requests.specs.Answers.{report_reply}

-- the length of the history on which it stands, and the text of the report
pub record ReportReplyData : Type 0 where
  pub front : ℕ
  pub text : List ℕ

-- its bytes, on a connection that stays open
abbrev pub open_reply : ReportReplyData → List ℕ
open_reply reply = report_reply reply.front false reply.text

-- the bytes that are sent: those of a reply that is shared, if there is one, or what was written
abbrev pub reply_bytes : {Z : Type 0} → Option (Arc ReportReplyData Z) → List ℕ → List ℕ
reply_bytes (Some reply) written = open_reply (arc_value reply)
reply_bytes None written = written
