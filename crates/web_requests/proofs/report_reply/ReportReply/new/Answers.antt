use Rattle.std.proofs.Common.{◌≡◌, ◌∙◌, false}
use Rattle.web_requests.specs.Answers.{report_reply}
use Rattle.web_requests.proofs.SharedBytes.{is-within, is-whole, is-told}
use Rattle.web_requests.proofs.report_reply.ReportReply.new.Goals as goal

pub overflow_sub-start : goal.overflow_sub-start
overflow_sub-start c =
    let bytes : c.write_reply.new.text ≡ report_reply c.args.front false c.args.text.now = c.in_ok-write_reply.ensures ∙ c.report_head.ensures c.args.text.now in
    rw c.as_slice.ensures (is-within c.args.front c.args.text.now c.write_reply.new.text bytes)

pub invariant_of-result : goal.invariant_of-result
invariant_of-result c =
    let bytes : c.write_reply.new.text ≡ report_reply c.args.front false c.args.text.now = c.in_ok-write_reply.ensures ∙ c.report_head.ensures c.args.text.now in
    rw c.as_slice.ensures (is-whole c.args.front c.args.text.now c.write_reply.new.text bytes)

pub returns : goal.returns
returns c =
    let bytes : c.write_reply.new.text ≡ report_reply c.args.front false c.args.text.now = c.in_ok-write_reply.ensures ∙ c.report_head.ensures c.args.text.now in
    rw c.as_slice.ensures (is-told c.args.front c.args.text.now c.write_reply.new.text bytes)
