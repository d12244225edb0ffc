-- Sets of the texts that were seen (own).
use Rattle.std.specs.Prelude.{◌≡◌, ℕ, Bool, true, cond, List}
use Rattle.std.specs.List.{list_any}
use Rattle.std.specs.Str.{bytes_eq}

-- what a set has after one more text
abbrev pub AddsText : List ℕ → (List ℕ → Bool) → (List ℕ → Bool) → Type 0
AddsText text old new = (q : List ℕ) → new q ≡ cond (bytes_eq text q) true (old q)

-- a set has exactly these texts
abbrev pub AreTheTexts : (List ℕ → Bool) → List (List ℕ) → Type 0
AreTheTexts has texts = (q : List ℕ) → has q ≡ list_any (bytes_eq q) texts
