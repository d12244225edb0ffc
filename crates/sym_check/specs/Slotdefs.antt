-- When the slots of a symbol are good (gEDA master attribute document, `numslots` and `slotdef`;
-- the bounds are own).
use Rattle.std.specs.Prelude.{ℕ, Bool, true, false, not, ◌==◌, ◌||◌, List, length, Option, None, Some, is_some}
use Rattle.std.specs.List.{filter_map}
use Rattle.attr_rules.specs.PinLists.{cut_of, pieces_of, pin_numbers}
use Rattle.attr_rules.specs.Slots.{exceeds, short_number}

-- the number is there, and is not 0
abbrev pub is_from_one : Option ℕ → Bool
is_from_one None = false
is_from_one (Some n) = not (n == 0)

-- a small number: 1 to 4 digits with a value of at least 1
abbrev pub is_small_number : List ℕ → Bool
is_small_number text = is_from_one (short_number text)

-- the number is there, and is above the count of slots, where that is there and at least 1
abbrev pub is_above : Option ℕ → Option ℕ → Bool
is_above count None = false
is_above count (Some n) = exceeds n count

-- what stands before the first `:` of a value that is cut there
abbrev pub head_if : Option (List ℕ × List ℕ) → Option (List ℕ)
head_if None = None
head_if (Some cut) = Some cut.0

-- the same of a `slotdef`
abbrev pub slotdef_head : List ℕ → Option (List ℕ)
slotdef_head slotdef = head_if (cut_of slotdef)

-- the same of all that have a `:`
abbrev pub heads_of : List (List ℕ) → List (List ℕ)
heads_of slotdefs = filter_map slotdef_head slotdefs

-- a list has a number that is none
abbrev pub has_bad_number : List ℕ → Bool
has_bad_number list = not (is_some (pin_numbers list))

-- a list has not so many numbers
abbrev pub has_other_length : ℕ → List ℕ → Bool
has_other_length pins list = not (length (pieces_of list) == pins)

-- a `slotdef` that is cut at its first `:` is bad, for a symbol with this count of slots and so
-- many pins
abbrev pub is_bad_cut : Option ℕ → ℕ → Option (List ℕ × List ℕ) → Bool
is_bad_cut count pins None = true
is_bad_cut count pins (Some cut) =
    not (is_small_number cut.0) || (is_above count (short_number cut.0)
    || (has_bad_number cut.1 || has_other_length pins cut.1))

-- the same of a `slotdef`; one without `:` is bad
abbrev pub is_bad_slotdef : Option ℕ → ℕ → List ℕ → Bool
is_bad_slotdef count pins slotdef = is_bad_cut count pins (cut_of slotdef)
