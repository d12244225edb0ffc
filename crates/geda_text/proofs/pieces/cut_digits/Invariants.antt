use Rattle.std.proofs.Common.{◌≡◌, ◌<◌, ◌≤◌, ◌^◌, ◌-◌, true, length, take}
use Rattle.std.specs.Char.{is_ascii_digit}
use Rattle.std.specs.List.{list_all}
use Rattle.std.specs.Str.Parse.{digits_value}
use Rattle.geda_text.proofs.pieces.cut_digits.Given as goal

-- so many digits are read
abbrev pub invariant-loop-count : goal.invariant-loop-count
invariant-loop-count l =
    (l.value ≡ digits_value 10 (take l.count l.bytes))
    × (l.value < 10 ^ l.count)
    × (list_all is_ascii_digit (take l.count l.bytes) ≡ true)
    × (l.count ≤ length l.bytes)
    × (l.count ≤ 9)

abbrev pub decreases-loop-count : goal.decreases-loop-count
decreases-loop-count l = length l.bytes - l.count
