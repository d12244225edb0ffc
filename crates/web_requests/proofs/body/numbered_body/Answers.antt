use Rattle.serde_json.specs.View.{view}
use Rattle.web_requests.specs.Bodies.{numbered_fault}
use Rattle.web_requests.proofs.BodyTexts.{body_text, numbered_none}
use Rattle.web_requests.proofs.body.numbered_body.Goals as goal

pub returns : goal.returns
returns c = body_text c.to_string.result (view c.in_ok-value.value) (numbered_fault c.args.name.now c.args.key.now c.args.number) c.in_ok-value.ensures (numbered_none c.args.name.now c.args.key.now c.args.number) c.to_string.ensures.text
