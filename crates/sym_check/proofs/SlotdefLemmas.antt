-- A `slotdef` is good where it alone gives its own slot as many pin numbers as there are pins.
use Rattle.std.proofs.Common.{◌≡◌, ◌∙◌, ◌==◌, ℕ, Bool, true, false, not, List, [], ◌∷◌, length, Option, Some, None, Result, Ok, Err, refl, ap, arith}
use Rattle.std.specs.List.{list_all}
use Rattle.std.proofs.lemmas.Bool.Decides.{nat_tests}
use Rattle.attr_rules.specs.PinLists.{cut_of, is_pin_number, pieces_of, pin_numbers}
use Rattle.attr_rules.specs.Slots.{exceeds, is_same, short_number, slot_count, slot_pins}
use Rattle.attr_rules.specs.declared.slots.SlotFault.{SlotFault}
use Rattle.sym_check.specs.Slotdefs.{is_bad_cut, is_bad_slotdef, slotdef_head}

-- a `slotdef` without `:` is bad
pub none_is_bad : (count : Option ℕ) (pins : ℕ) (slotdef : List ℕ) → slotdef_head slotdef ≡ None → is_bad_slotdef count pins slotdef ≡ true
none_is_bad count pins slotdef none = by (cut_of slotdef) refl
  where
    by : (cut : Option (List ℕ × List ℕ)) → cut_of slotdef ≡ cut → is_bad_slotdef count pins slotdef ≡ true
    by None e = rw e refl
    by (Some cut) e = absurd (let h = rw e at none in cc)

-- pin numbers that are not as many as the pins, or a fault
abbrev pub is_other : ℕ → Result (List (List ℕ)) SlotFault → Bool
is_other pins (Ok numbers) = not (length numbers == pins)
is_other pins (Err fault) = true

pub same_number : (n : ℕ) → is_same n (Some n) ≡ true
same_number n = grind (arith, nat_tests)

module _ (numslots : Option (List ℕ)) (pins : ℕ) (slotdef head list : List ℕ) (cut : cut_of slotdef ≡ Some (head, list)) where
  -- the numbers of its list
  by_list : (n : ℕ) → short_number head ≡ Some n → (n == 0) ≡ false → exceeds n (slot_count numslots) ≡ false
      → (b : Bool) → list_all is_pin_number (pieces_of list) ≡ b
      → is_bad_cut (slot_count numslots) pins (Some (head, list)) ≡ is_other pins (slot_pins head numslots (slotdef ∷ []))
  unfolding slot_pins pin_numbers
  by_list n number some inside true all = rw (cut, number, some, inside, same_number n, all) refl
  by_list n number some inside false all = rw (cut, number, some, inside, same_number n, all) refl

  by_count : (n : ℕ) → short_number head ≡ Some n → (n == 0) ≡ false → (b : Bool) → exceeds n (slot_count numslots) ≡ b
      → is_bad_cut (slot_count numslots) pins (Some (head, list)) ≡ is_other pins (slot_pins head numslots (slotdef ∷ []))
  unfolding slot_pins
  by_count n number some true above = rw (number, some, above) refl
  by_count n number some false inside = by_list n number some inside (list_all is_pin_number (pieces_of list)) refl

  by_zero : (n : ℕ) → short_number head ≡ Some n → (b : Bool) → (n == 0) ≡ b
      → is_bad_cut (slot_count numslots) pins (Some (head, list)) ≡ is_other pins (slot_pins head numslots (slotdef ∷ []))
  unfolding slot_pins
  by_zero n number true zero = rw (number, zero) refl
  by_zero n number false some = by_count n number some (exceeds n (slot_count numslots)) refl

  by_head : (o : Option ℕ) → short_number head ≡ o
      → is_bad_cut (slot_count numslots) pins (Some (head, list)) ≡ is_other pins (slot_pins head numslots (slotdef ∷ []))
  unfolding slot_pins
  by_head None none = rw none refl
  by_head (Some n) number = by_zero n number (n == 0) refl

  of_cut : is_bad_slotdef (slot_count numslots) pins slotdef ≡ is_other pins (slot_pins head numslots (slotdef ∷ []))
  of_cut = ap (is_bad_cut (slot_count numslots) pins) cut ∙ by_head (short_number head) refl

-- the slot that stands before the first `:` tells
pub slotdef_is : (numslots : Option (List ℕ)) (pins : ℕ) (slotdef head : List ℕ) → slotdef_head slotdef ≡ Some head
    → is_bad_slotdef (slot_count numslots) pins slotdef ≡ is_other pins (slot_pins head numslots (slotdef ∷ []))
slotdef_is numslots pins slotdef head some = by (cut_of slotdef) refl
  where
    by : (cut : Option (List ℕ × List ℕ)) → cut_of slotdef ≡ cut
        → is_bad_slotdef (slot_count numslots) pins slotdef ≡ is_other pins (slot_pins head numslots (slotdef ∷ []))
    by None e = absurd (let h = rw e at some in cc)
    by (Some cut) e =
        let same : cut.0 ≡ head = let h = rw e at some in cc in
        of_cut numslots pins slotdef head cut.1 (e ∙ ap (λ (h : List ℕ). Some (h, cut.1)) same)
