use Rattle.std.proofs.Common.{arith}
use Rattle.project_files.specs.steps.Counting.{asked_bytes}
use Rattle.project_files.proofs.TextLemmas.{whole_sum}
use Rattle.project_files.proofs.project_text.bytes_of_symbols.Goals as goal

pub returns : goal.returns
returns c = whole_sum asked_bytes c.args.symbols.now c.loop-name._name-index c.loop-name.bytes _ (omega arith) c.loop-name.invariant.fits c.loop-name.invariant.rest
