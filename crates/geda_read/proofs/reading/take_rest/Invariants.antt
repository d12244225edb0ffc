use Rattle.std.proofs.Common.{◌≡◌, ◌+◌, length}
use Rattle.geda_read.specs.steps.Files.{state_of, take_lines}
use Rattle.geda_read.proofs.reading.take_rest.Given as goal

-- what is left leads to what all lines lead to, and each line was counted
abbrev pub invariant-loop-line : goal.invariant-loop-line
invariant-loop-line l =
    (take_lines l.mode (state_of l.stage) l.cutter.number l.cutter.lines
    ≡ take_lines l.fn.mode (state_of l.fn.stage) l.fn.cutter.number l.fn.cutter.lines)
    × (l.cutter.number + length l.cutter.lines ≡ l.fn.cutter.number + length l.fn.cutter.lines)
    × (l.mode ≡ l.fn.mode)

abbrev pub decreases-loop-line : goal.decreases-loop-line
decreases-loop-line l = length l.cutter.lines
