use Rattle.std.proofs.Common.{◌≡◌, ◌+◌, ◌*◌, ◌-◌, ◌≤◌, ◌++◌, length, drop}
use Rattle.geda_write.specs.steps.Texts.{numbers_text}
use Rattle.geda_write.proofs.numbers.write_numbers.Given as goal

-- the last numbers are written, each with at most 12 bytes
abbrev pub invariant-loop-left : goal.invariant-loop-left
invariant-loop-left l =
    (l.left ≤ length l.numbers) × (l.start ≤ l.end) × (l.end ≤ l.start + (length l.numbers - l.left) * 12)
    × (drop l.start l.bytes ≡ numbers_text (drop l.left l.numbers) ++ drop l.end l.fn.bytes)

abbrev pub decreases-loop-left : goal.decreases-loop-left
decreases-loop-left l = l.left
