use Rattle.web_heads.proofs.MessageSizes.{front_first}
use Rattle.web_heads.proofs.sizes.message_front.Goals as goal

pub returns : goal.returns
returns c = front_first c.args.bytes.now c.min-count.result c.front_of.result c.min-count.ensures c.front_of.ensures
