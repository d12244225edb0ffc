use Rattle.std.proofs.Common.{arith}
use Rattle.project_files.specs.steps.Counting.{object_count}
use Rattle.project_files.proofs.TextLemmas.{whole_sum}
use Rattle.project_files.proofs.project_text.object_count.Goals as goal

pub returns : goal.returns
returns c = whole_sum object_count c.args.sheets.now c.loop-sheet.sheet-index c.loop-sheet.count _ (omega arith) c.loop-sheet.invariant.fits c.loop-sheet.invariant.rest
