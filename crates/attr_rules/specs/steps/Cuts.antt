-- Steps of the code; no public clause cites them.
-- A text that is cut at its first `=`.
use Rattle.std.specs.Prelude.{◌≡◌, ℕ, Bool, false, true, nat_lt, List, length}
use Rattle.std.specs.List.{after_first, before_first, position_or_len}
use Rattle.attr_rules.specs.Splits.{is_equals}

-- the text has an `=`
abbrev pub has_equals : List ℕ → Bool
has_equals text = nat_lt (position_or_len is_equals text) (length text)

-- it has none
abbrev pub HasNoEquals : List ℕ → Type 0
HasNoEquals text = has_equals text ≡ false

-- it has one, and these stand before the first one and behind it
abbrev pub IsCut : List ℕ → List ℕ → List ℕ → Type 0
IsCut text before behind =
    (has_equals text ≡ true)
    × (before ≡ before_first is_equals text)
    × (behind ≡ after_first is_equals text)
