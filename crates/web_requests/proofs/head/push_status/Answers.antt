use Rattle.std.proofs.Common.{◌∙◌, ap, ◌++◌, ◌∷◌, [], codes}
use Rattle.http.specs.StatusCode.{code_digits}
use Rattle.web_requests.proofs.ReplyBytes.{parts_five, on_ok}
use Rattle.web_requests.specs.Texts.{status_line}
use Rattle.web_requests.proofs.head.push_status.Goals as goal

pub returns : goal.returns
unfolding status_line
returns c = on_ok c.push-5.result _ _ (λ e. e
    ∙ ap (λ t. t ++ (13 ∷ 10 ∷ [])) (c.in_ok-push-4.ensures
    ∙ ap (λ t. t ++ c.as_bytes-2.result.now) (c.in_ok-push-3.ensures
    ∙ ap (λ t. t ++ codes " ") (c.in_ok-push-2.ensures
    ∙ ap (λ t. t ++ c.as_bytes.result.now) c.in_ok-push.ensures)))
    ∙ parts_five c.args.text.now (codes "HTTP/1.1 ") c.as_bytes.result.now (codes " ") c.as_bytes-2.result.now (13 ∷ 10 ∷ [])
    ∙ ap (λ a. c.args.text.now ++ ((((codes "HTTP/1.1 " ++ a) ++ codes " ") ++ c.as_bytes-2.result.now) ++ (13 ∷ 10 ∷ []))) (c.as_bytes.ensures.value ∙ c.as_str.ensures)
    ∙ ap (λ a. c.args.text.now ++ ((((codes "HTTP/1.1 " ++ code_digits c.args.status) ++ codes " ") ++ a) ++ (13 ∷ 10 ∷ []))) (c.as_bytes-2.ensures.value ∙ c.phrase.ensures)) c.push-5.ensures
