use Rattle.std.proofs.Common.{arith}
use Rattle.project_files.specs.steps.Bounds.{text_most}
use Rattle.project_files.proofs.TextLemmas.{whole_sum}
use Rattle.project_files.proofs.bounds.attached_bound.Goals as goal

pub returns : goal.returns
returns c = whole_sum text_most c.args.texts.now c.loop-text.text-index c.loop-text.bytes _ (omega arith) c.loop-text.invariant.fits c.loop-text.invariant.rest
