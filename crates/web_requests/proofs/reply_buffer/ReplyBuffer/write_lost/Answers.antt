use Rattle.std.proofs.Common.{◌∙◌, ap, ◌++◌, decimal}
use Rattle.web_requests.specs.steps.Lost.{lost_start}
use Rattle.web_requests.proofs.ReplyBytes.{lost_bytes}
use Rattle.web_requests.proofs.reply_buffer.ReplyBuffer.write_lost.Goals as goal

pub returns : goal.returns
returns c = c.push_within-3.ensures
    ∙ ap (λ t. t ++ c.lost_end.result.now) (c.push_within-2.ensures
    ∙ ap (λ t. t ++ c.as_bytes.result.now) (c.push_within.ensures ∙ ap (λ t. t ++ c.lost_start.result.now) c.clear.ensures ∙ c.lost_start.ensures.text))
    ∙ ap (λ d. (lost_start ++ d) ++ c.lost_end.result.now) (c.as_bytes.ensures.value ∙ c.format.ensures.text)
    ∙ ap (λ e. (lost_start ++ decimal c.args.front) ++ e) c.lost_end.ensures.text
    ∙ lost_bytes c.args.front c.args.closing
