-- How often something failed, before and after (own).
use Rattle.std.specs.Prelude.{ℕ, ◌+◌, ◌-◌, ◌^◌, min}
use Rattle.geda_defs.specs.Causes.{HasRisen}

-- how often something failed, before a run and after it
pub record Counts : Type 0 where
  pub old : ℕ
  pub new : ℕ

-- the two, from what was told before and after
abbrev pub counts : ℕ → ℕ → Counts
counts old new = record { old = old; new = new }

-- the count rose
abbrev pub Failed : Counts → Type 0
Failed counts = HasRisen counts.old counts.new

-- one more, but at the end of its type a count stays
abbrev pub one_more : ℕ → ℕ
one_more count = min (count + 1) (2 ^ 64 - 1)
