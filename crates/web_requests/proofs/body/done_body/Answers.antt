use Rattle.std.proofs.Common.{refl}
use Rattle.serde_json.specs.View.{view}
use Rattle.web_requests.specs.Bodies.{done_entry}
use Rattle.web_requests.proofs.BodyTexts.{body_text}
use Rattle.web_requests.proofs.body.done_body.Goals as goal

pub returns : goal.returns
returns c = body_text c.to_string.result (view c.in_ok-value.value) (done_entry c.args.first_id c.args.serial) c.in_ok-value.ensures (refl) c.to_string.ensures.text
