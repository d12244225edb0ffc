-- Where nothing is found on the slots of a symbol, each of them has its pin numbers.
use Rattle.std.proofs.Common.{◌≡◌, ◌∙◌, ◌<◌, ◌≤◌, ◌+◌, ◌||◌, ◌⊎◌, ℕ, zero, suc, Bool, true, false, not, List, [], ◌∷◌, length, Option, Some, None, Contains, IsOk, is_some, inl, inr, refl, sym, ap, subst, arith}
use Rattle.std.specs.Fmt.{decimal}
use Rattle.std.specs.List.{flat_map, list_any, range_with_len}
use Rattle.std.specs.Option.{unwrap_or}
use Rattle.std.specs.Str.{bytes_eq}
use Rattle.std.proofs.lemmas.Bool.{or_parts}
use Rattle.std.proofs.lemmas.List.Elements.{Contains-append_left, Contains-append_right}
use Rattle.geda_defs.proofs.Bytes.{bytes_same}
use Rattle.geda_model.specs.Sheets.{SymbolData}
use Rattle.attr_rules.specs.PinLists.{cut_of, pin_numbers}
use Rattle.attr_rules.specs.Slots.{is_same, list_for, list_in, short_number, slot_count, slot_number, slot_pins}
use Rattle.printed_texts.specs.PrintedTexts.{word}
use Rattle.sym_check.specs.declared.checked.CheckedSymbol.{CheckedSymbol}
use Rattle.sym_check.specs.declared.finding.SymFinding.{SymFinding}
use Rattle.sym_check.specs.CheckedSymbols.{checked_symbol}
use Rattle.sym_check.specs.Findings.{bad_net_value, bad_numslots, bad_slotdef, duplicate_slotdef, found_in_symbol, found_on_pins, found_on_slotdef, found_on_slots, found_on_symbol, found_on_whole, missing_slotdef, missing_slotdefs, symbol_error}
use Rattle.sym_check.specs.Laws.{IsOffSlots, SlotsHold}
use Rattle.sym_check.specs.Slotdefs.{has_bad_number, has_other_length, heads_of, is_above, is_bad_cut, is_bad_slotdef, is_small_number}
use Rattle.sym_check.proofs.NumberLemmas.{count_below, short_decimal, slot_is}
use Rattle.sym_check.proofs.SlotdefLemmas.{same_number}

-- what is made of a member is made of the list
contains_flat : {A B : Type 0} (make : A → List B) (xs : List A) (x : A) (y : B) → Contains xs x → Contains (make x) y → Contains (flat_map make xs) y
contains_flat make [] x y (k, lt, e) inside = absurd (omega (arith, lt))
contains_flat make (z ∷ zs) x y (zero, lt, e) inside =
    Contains-append_left (make z) (flat_map make zs) y (subst (λ w. Contains (make w) y) (sym e) inside)
contains_flat make (z ∷ zs) x y (suc k, lt, e) inside =
    Contains-append_right (make z) (flat_map make zs) y (contains_flat make zs x y (k, omega (arith, lt), e) inside)

eq_or_above : (a b : ℕ) → a ≤ b → (a ≡ b) ⊎ (a < b)
eq_or_above zero zero h = inl refl
eq_or_above zero (suc b) h = inr (omega arith)
eq_or_above (suc a) zero h = absurd (omega (arith, h))
eq_or_above (suc a) (suc b) h = up (eq_or_above a b (omega (arith, h)))
  where
    up : (a ≡ b) ⊎ (a < b) → (suc a ≡ suc b) ⊎ (suc a < suc b)
    up (inl e) = inl (ap suc e)
    up (inr lt) = inr (omega (arith, lt))

-- a number of a range
contains_range : (from n k : ℕ) → from ≤ k → k < from + n → Contains (range_with_len from n) k
contains_range from zero k low high = absurd (omega (arith, low, high))
contains_range from (suc n) k low high =
    by (eq_or_above from k low) (λ lt. contains_range (from + 1) n k (omega (arith, lt)) (omega (arith, high)))
  where
    by : (from ≡ k) ⊎ (from < k) → (from < k → Contains (range_with_len (from + 1) n) k) → Contains (range_with_len from (suc n)) k
    by (inl e) rest = (0, omega arith, e)
    by (inr lt) rest = let r = rest lt in (suc r.0, omega (arith, r.1), r.2)

-- a `slotdef` for a slot, and its list
record ListOf (k : ℕ) (slotdefs : List (List ℕ)) : Type 0 where
  slotdef : List ℕ
  list : List ℕ
  at : Contains slotdefs slotdef
  its : list_in k slotdef ≡ Some list
  first : list_for k slotdefs ≡ Some list

-- one that is not for the slot comes before others
skip : (k : ℕ) (d : List ℕ) (ds : List (List ℕ)) → list_in k d ≡ None → ListOf k ds → ListOf k (d ∷ ds)
skip k d ds none l = record {
  slotdef = l.slotdef;
  list = l.list;
  at = (suc l.at.0, omega (arith, l.at.1), l.at.2);
  its = l.its;
  first = rw none l.first;
}

more : (k : ℕ) (text : List ℕ) (d : List ℕ) (ds : List (List ℕ)) → short_number text ≡ Some k
    → (list_any (bytes_eq text) (heads_of ds) ≡ true → ListOf k ds)
    → list_any (bytes_eq text) (heads_of (d ∷ ds)) ≡ true → ListOf k (d ∷ ds)
more k text d ds number rest h = by (cut_of d) refl
  where
    other_head : (head : List ℕ) → is_same k (short_number head) ≡ false → bytes_eq text head ≡ false
    other_head head other = by_equal (bytes_eq text head) refl
      where
        by_equal : (b : Bool) → bytes_eq text head ≡ b → b ≡ false
        by_equal false e = refl
        by_equal true e =
            let its : short_number head ≡ Some k = ap short_number (sym (bytes_same text head e)) ∙ number in
            let same : is_same k (short_number head) ≡ true = rw its (same_number k) in
            absurd (let g = sym same ∙ other in cc)

    by_value : (cut : List ℕ × List ℕ) → cut_of d ≡ Some cut → (b : Bool) → is_same k (short_number cut.0) ≡ b → ListOf k (d ∷ ds)
    by_value cut e true same = record {
      slotdef = d;
      list = cut.1;
      at = (0, omega arith, refl);
      its = rw (e, same) refl;
      first = rw (e, same) refl;
    }
    by_value cut e false other =
        let all : (bytes_eq text cut.0 || list_any (bytes_eq text) (heads_of ds)) ≡ true = rw e at h in
        skip k d ds (rw (e, other) refl) (rest (rw (other_head cut.0 other) at all))

    by : (cut : Option (List ℕ × List ℕ)) → cut_of d ≡ cut → ListOf k (d ∷ ds)
    by None e = skip k d ds (rw e refl) (rest (rw e at h))
    by (Some cut) e = by_value cut e (is_same k (short_number cut.0)) refl

-- where a `slotdef` has these digits before its first `:`, one is for the slot
finds : (k : ℕ) (text : List ℕ) → short_number text ≡ Some k → (ds : List (List ℕ)) → list_any (bytes_eq text) (heads_of ds) ≡ true → ListOf k ds
finds k text number [] h = absurd (let g = h in cc)
finds k text number (d ∷ ds) h = more k text d ds number (finds k text number ds) h

not_false : (b : Bool) → not b ≡ false → b ≡ true
not_false true e = refl
not_false false e = absurd (let g = e in cc)

-- the list of a good `slotdef` has pin numbers
has_numbers : (count : Option ℕ) (pins k : ℕ) (d list : List ℕ) → list_in k d ≡ Some list → is_bad_slotdef count pins d ≡ false
    → is_some (pin_numbers list) ≡ true
has_numbers count pins k d list its good = by (cut_of d) refl
  where
    numbers : (cut : List ℕ × List ℕ) → is_bad_cut count pins (Some cut) ≡ false → is_some (pin_numbers cut.1) ≡ true
    numbers cut h =
        let one = or_parts (not (is_small_number cut.0)) (is_above count (short_number cut.0) || (has_bad_number cut.1 || has_other_length pins cut.1)) h in
        let two = or_parts (is_above count (short_number cut.0)) (has_bad_number cut.1 || has_other_length pins cut.1) one.1 in
        not_false (is_some (pin_numbers cut.1)) ((or_parts (has_bad_number cut.1) (has_other_length pins cut.1) two.1).0)

    by_value : (cut : List ℕ × List ℕ) → cut_of d ≡ Some cut → (b : Bool) → is_same k (short_number cut.0) ≡ b → is_some (pin_numbers list) ≡ true
    by_value cut e true same =
        let it : cut.1 ≡ list = let g = rw (e, same) at its in cc in
        subst (λ (l : List ℕ). is_some (pin_numbers l) ≡ true) it (numbers cut (rw e at good))
    by_value cut e false other = absurd (let g = rw (e, other) at its in cc)

    by : (cut : Option (List ℕ × List ℕ)) → cut_of d ≡ cut → is_some (pin_numbers list) ≡ true
    by None e = absurd (let g = rw e at its in cc)
    by (Some cut) e = by_value cut e (is_same k (short_number cut.0)) refl

-- a slot with such a list has its pin numbers
ends : (text : List ℕ) (numslots : Option (List ℕ)) (ds : List (List ℕ)) (k : ℕ) (list : List ℕ) → slot_number text numslots ≡ Some k
    → list_for k ds ≡ Some list → is_some (pin_numbers list) ≡ true → IsOk (slot_pins text numslots ds)
unfolding slot_pins
ends text numslots ds k list number first some = by (pin_numbers list) refl
  where
    by : (o : Option (List (List ℕ))) → pin_numbers list ≡ o → IsOk (slot_pins text numslots ds)
    by None e = absurd (let g = rw e at some in cc)
    by (Some numbers) e = rw (number, first, e) refl

module _ (s : CheckedSymbol) (off : (f : SymFinding) → Contains (found_on_symbol s) f → IsOffSlots f) where
  -- what is found on slots is none of the four
  none_at : (code : ℕ) (words : List ℕ) → 11 ≤ code → code ≤ 14 → Contains (found_on_slots s) (symbol_error code words) → ⊥
  none_at code words low high at = by (off f inside)
    where
      f : SymFinding
      f = symbol_error code words

      inside : Contains (found_on_symbol s) f
      inside = Contains-append_right (found_on_whole s) _ f (Contains-append_right (found_on_pins s) _ f (Contains-append_left (found_on_slots s) (flat_map bad_net_value s.nets) f at))

      by : IsOffSlots f → ⊥
      by (inl below) = omega (arith, low, below)
      by (inr above) = omega (arith, high, above)

  -- a `slotdef` has the digits of each number
  has_head : (n k : ℕ) → slot_count s.numslots ≡ Some n → 0 < k → k ≤ n → list_any (bytes_eq (decimal k)) (heads_of s.slotdefs) ≡ true
  has_head n k count from most = by (list_any (bytes_eq (decimal k)) (heads_of s.slotdefs)) refl
    where
      f : SymFinding
      f = symbol_error 12 (decimal k)

      by : (b : Bool) → list_any (bytes_eq (decimal k)) (heads_of s.slotdefs) ≡ b → b ≡ true
      by true e = refl
      by false e =
          let one : Contains (missing_slotdef s.slotdefs k) f = rw e (0, omega arith, refl) in
          let at : Contains (range_with_len 1 (unwrap_or (slot_count s.numslots) 0)) k = rw count (contains_range 1 n k from (omega (arith, most))) in
          let all : Contains (missing_slotdefs s) f = contains_flat (missing_slotdef s.slotdefs) (range_with_len 1 (unwrap_or (slot_count s.numslots) 0)) k f at one in
          absurd (none_at 12 (decimal k) (omega arith) (omega arith) (Contains-append_right (bad_numslots s) _ f (Contains-append_left (missing_slotdefs s) _ f all)))

  -- each `slotdef` is good
  is_good : (d : List ℕ) → Contains s.slotdefs d → is_bad_slotdef (slot_count s.numslots) (length s.pins) d ≡ false
  is_good d at = by (is_bad_slotdef (slot_count s.numslots) (length s.pins) d) refl
    where
      f : SymFinding
      f = symbol_error 14 (word d)

      by : (b : Bool) → is_bad_slotdef (slot_count s.numslots) (length s.pins) d ≡ b → b ≡ false
      by false e = refl
      by true e =
          let one : Contains (bad_slotdef s d) f = rw e (0, omega arith, refl) in
          let its : Contains (found_on_slotdef s d) f = Contains-append_right (duplicate_slotdef s.slotdefs d) (bad_slotdef s d) f one in
          let all = contains_flat (found_on_slotdef s) s.slotdefs d f at its in
          absurd (none_at 14 (word d) (omega arith) (omega arith) (Contains-append_right (bad_numslots s) _ f (Contains-append_right (missing_slotdefs s) _ f all)))

  holds : (n k : ℕ) → slot_count s.numslots ≡ Some n → 0 < k → k ≤ n → IsOk (slot_pins (decimal k) s.numslots s.slotdefs)
  holds n k count from most =
      let small : n < 10000 = subst (λ (o : Option ℕ). unwrap_or o 0 < 10000) count (count_below s.numslots) in
      let number = short_decimal k (omega (arith, most, small)) in
      let l = finds k (decimal k) number s.slotdefs (has_head n k count from most) in
      let some = has_numbers (slot_count s.numslots) (length s.pins) k l.slotdef l.list l.its (is_good l.slotdef l.at) in
      ends (decimal k) s.numslots s.slotdefs k l.list (slot_is (decimal k) s.numslots n k number count from most) l.first some

-- the law on slots
pub slots_hold : (symbol : SymbolData) → SlotsHold symbol
unfolding found_in_symbol
slots_hold symbol off = holds (checked_symbol symbol) off
