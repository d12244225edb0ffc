use Rattle.std.proofs.Common.{◌≡◌, length}
use Rattle.geda_text.specs.Lines.{fields_of}
use Rattle.geda_text.proofs.pieces.without_blanks.Given as goal

abbrev pub invariant-loop-first : goal.invariant-loop-first
invariant-loop-first l = fields_of l.rest ≡ fields_of l.fn.line

abbrev pub decreases-loop-first : goal.decreases-loop-first
decreases-loop-first l = length l.rest
