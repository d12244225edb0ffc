use Rattle.std.proofs.Common.{◌∙◌, ap, ◌++◌, codes}
use Rattle.web_requests.proofs.ReplyBytes.{parts_three, on_ok}
use Rattle.web_requests.specs.Texts.{status_line, header, front_lines}
use Rattle.web_requests.proofs.head.push_first.Goals as goal

pub returns : goal.returns
returns c = let s = c.args.head.now.status in let f = c.args.head.now.front in on_ok c.push_front.result _ _ (λ e. e
    ∙ ap (λ t. t ++ front_lines f) (c.in_ok-push_header.ensures
    ∙ ap (λ t. t ++ header (codes "Content-Type") c.content_name.result.now) c.in_ok-push_status.ensures)
    ∙ parts_three c.args.text.now (status_line s) (header (codes "Content-Type") c.content_name.result.now) (front_lines f)
    ∙ ap (λ a. c.args.text.now ++ ((status_line s ++ header (codes "Content-Type") a) ++ front_lines f)) c.content_name.ensures) c.push_front.ensures
