-- The numbers that the work draws (own): each is the last one times 48,271, modulo the prime
-- 2,147,483,647 (Park and Miller's generator with the multiplier of its revision).
use Rattle.std.specs.Prelude.{ℕ, ◌*◌, ◌%◌, ◌==◌, if◌then◌else◌}

-- a number from 1 to 2,147,483,646 to begin with: 1 where the start is a multiple of the prime
abbrev pub first_state : ℕ → ℕ
first_state start = if start % 2147483647 == 0 then 1 else start % 2147483647

-- the next number
abbrev pub drawn : ℕ → ℕ
drawn state = 48271 * state % 2147483647
