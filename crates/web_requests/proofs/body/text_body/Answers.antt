use Rattle.std.proofs.Common.{refl}
use Rattle.serde_json.specs.View.{view}
use Rattle.web_requests.specs.Bodies.{bad_text_fault}
use Rattle.web_requests.proofs.BodyTexts.{body_text}
use Rattle.web_requests.proofs.body.text_body.Goals as goal

pub returns : goal.returns
returns c = body_text c.to_string.result (view c.in_ok-value.value) (bad_text_fault c.args.kind.now c.args.line) c.in_ok-value.ensures (refl) c.to_string.ensures.text
