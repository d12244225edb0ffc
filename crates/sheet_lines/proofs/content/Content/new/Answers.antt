use Rattle.sheet_lines.proofs.Contents.{nothing_yet}
use Rattle.sheet_lines.proofs.content.Content.new.Goals as goal

pub invariant_of-result : goal.invariant_of-result
invariant_of-result c = rw c.new.ensures.bytes (nothing_yet _ c.requires.some c.requires.few)
