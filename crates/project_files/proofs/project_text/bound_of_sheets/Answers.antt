use Rattle.std.proofs.Common.{arith}
use Rattle.project_files.specs.steps.Counting.{sheet_bytes}
use Rattle.project_files.proofs.TextLemmas.{whole_bound}
use Rattle.project_files.proofs.project_text.bound_of_sheets.Goals as goal

pub returns : goal.returns
returns c = whole_bound sheet_bytes c.args.sheets.now c.loop-sheet.sheet-index c.loop-sheet.bytes _ (omega arith) c.loop-sheet.invariant.fits c.loop-sheet.invariant.rest
