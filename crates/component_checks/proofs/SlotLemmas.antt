-- The slots of packages after all components are those of the packages.
use Rattle.std.proofs.Common.{◌≡◌, ◌∙◌, ℕ, Bool, true, false, ◌&&◌, ◌||◌, cond, List, [], ◌∷◌, Option, Some, None, refl, ap, sym}
use Rattle.std.specs.Prelude.{is_some, not, unwrap_or}
use Rattle.std.specs.BTreeMap.{Updates, is_at}
use Rattle.std.specs.BTreeSet.{contains}
use Rattle.std.specs.List.{filter_map, flat_map, list_any, range_with_len, slice_get}
use Rattle.std.specs.Option.{option_or}
use Rattle.std.specs.Ordering.{nat_cmp}
use Rattle.std.specs.Str.{bytes_eq}
use Rattle.std.proofs.lemmas.Map.Text.{is_eq-slice_cmp}
use Rattle.std.proofs.lemmas.Slice.Eq.{bytes_eq-Decides}
use Rattle.geda_defs.proofs.Bytes.{bytes_turned}
use Rattle.geda_defs.proofs.OnceLaws.{option_or-assoc, option_or-none}
use Rattle.geda_defs.specs.Order.{by_bytes}
use Rattle.text_tallies.proofs.ListLemmas.{flat_map_same}
use Rattle.component_checks.specs.CheckedComponents.{CheckedData}
use Rattle.component_checks.specs.OnPackages.{is_slot_number, of_package, slot_value, unused_slot, unused_slots, uses_slot}
use Rattle.component_checks.specs.declared.slot_rows.PackageSlots.{PackageSlots}
use Rattle.component_checks.specs.steps.SlotRows.{AddsNumber, AreSlotsOf, SlotRows, TakesIn, TakesInIfListed, all_unused_in, count_after, count_in, count_of, has_no_slots, is_part_of, is_used, row_at, unused_in, uses_in}
use Rattle.component_checks.proofs.ListLemmas.{first_cons}

-- ---- one component

-- the slots that are known of a package, or none
known_count : (row : Option PackageSlots) (none : PackageSlots) → none.count ≡ None → (unwrap_or row none).count ≡ count_in row
known_count None none e = e
known_count (Some slots) none e = refl

known_used : (row : Option PackageSlots) (none : PackageSlots) (k : ℕ) → contains nat_cmp none.used k ≡ false
    → contains nat_cmp (unwrap_or row none).used k ≡ is_used row k
known_used None none k e = e
known_used (Some slots) none k e = refl

or_false : (b : Bool) → b ≡ (b || false)
or_false true = refl
or_false false = refl

-- a row is taken out, taken further and put back
row_back : (refdes : List ℕ) (old mid new : SlotRows) (made : PackageSlots)
    → Updates by_bytes old mid refdes None → Updates by_bytes mid new refdes (Some made)
    → (q : List ℕ) → row_at new q ≡ cond (bytes_eq q refdes) (Some made) (row_at old q)
row_back refdes old mid new made out back q = by (bytes_eq q refdes) refl
  where
    by : (b : Bool) → bytes_eq q refdes ≡ b → row_at new q ≡ cond b (Some made) (row_at old q)
    by true e =
        let hit : is_at (by_bytes refdes) q ≡ true = is_eq-slice_cmp refdes q ∙ bytes_turned refdes q ∙ e in
        back.0 q ∙ rw hit refl
    by false e =
        let miss : is_at (by_bytes refdes) q ≡ false = is_eq-slice_cmp refdes q ∙ bytes_turned refdes q ∙ e in
        back.0 q ∙ rw miss (out.0 q ∙ rw miss refl)

-- so the rows take in a component
pub takes_in : (refdes : List ℕ) (c : CheckedData) (old mid new : SlotRows) (none known made : PackageSlots)
    → known ≡ unwrap_or (row_at old refdes) none
    → none.count ≡ None → ((k : ℕ) → contains nat_cmp none.used k ≡ false)
    → made.count ≡ option_or known.count c.slots → AddsNumber (slot_value c.slot) known.used made.used
    → Updates by_bytes old mid refdes None → Updates by_bytes mid new refdes (Some made) → TakesIn refdes c old new
takes_in refdes c old mid new none known made is no_count no_used count used out back = record { counts = counts; used = uses }
  where
    counts : (q : List ℕ) → count_in (row_at new q) ≡ option_or (count_in (row_at old q)) (cond (bytes_eq q refdes) c.slots None)
    counts q = by (bytes_eq q refdes) refl
      where
        by : (b : Bool) → bytes_eq q refdes ≡ b → count_in (row_at new q) ≡ option_or (count_in (row_at old q)) (cond b c.slots None)
        by true e = rw (row_back refdes old mid new made out back q, e, count, is, known_count (row_at old refdes) none no_count, (bytes_eq-Decides q refdes).0 e) refl
        by false e = rw (row_back refdes old mid new made out back q, e, option_or-none (count_in (row_at old q))) refl

    uses : (q : List ℕ) (k : ℕ) → is_used (row_at new q) k ≡ (is_used (row_at old q) k || (bytes_eq q refdes && is_slot_number k (slot_value c.slot)))
    uses q k = by (bytes_eq q refdes) refl
      where
        by : (b : Bool) → bytes_eq q refdes ≡ b → is_used (row_at new q) k ≡ (is_used (row_at old q) k || (b && is_slot_number k (slot_value c.slot)))
        by true e = rw (row_back refdes old mid new made out back q, e, used k, is, known_used (row_at old refdes) none k (no_used k), (bytes_eq-Decides q refdes).0 e) refl
        by false e = rw (row_back refdes old mid new made out back q, e) (or_false (is_used (row_at old q) k))

-- neither a count nor a slot
neither : (slots : Option ℕ) (slot : Option (List ℕ)) → (not (is_some slots) && not (is_some slot)) ≡ true
    → (slots ≡ None) × (slot ≡ None)
neither None None e = (refl, refl)
neither None (Some s) e = absurd (let h = e in cc)
neither (Some n) slot e = absurd (let h = e in cc)

no_count : (known slots : Option ℕ) (b : Bool) → slots ≡ None → known ≡ option_or known (cond b slots None)
no_count known slots true e = rw e (sym (option_or-none known))
no_count known slots false e = sym (option_or-none known)

no_use : (used b : Bool) (k : ℕ) (slot : Option (List ℕ)) → slot ≡ None → used ≡ (used || (b && is_slot_number k (slot_value slot)))
no_use used true k slot e = rw e (or_false used)
no_use used false k slot e = or_false used

-- a component without slots changes no row
pub takes_none : (c : CheckedData) (rows : SlotRows) → has_no_slots c ≡ true → TakesInIfListed c rows rows
takes_none c rows none =
    let both = neither c.slots c.slot none in
    record {
      counts = λ q. no_count (count_in (row_at rows q)) c.slots (is_part_of q c) both.0;
      used = λ q k. no_use (is_used (row_at rows q) k) (is_part_of q c) k c.slot both.1;
    }

-- ---- all components

-- the first count among the components of a package
abbrev first_count : List CheckedData → List ℕ → Option ℕ
first_count cs q = slice_get (filter_map (λ c. c.slots) (of_package cs q)) 0

first_more : (q : List ℕ) (c : CheckedData) (cs : List CheckedData) → first_count (c ∷ cs) q ≡ option_or (count_of q c) (first_count cs q)
first_more q c cs = by (is_part_of q c)
  where
    by : (b : Bool) → slice_get (filter_map (λ d. d.slots) (cond b (c ∷ of_package cs q) (of_package cs q))) 0 ≡ option_or (cond b c.slots None) (first_count cs q)
    by true = first_cons c.slots (filter_map (λ d. d.slots) (of_package cs q))
    by false = refl

count_after-is : (q : List ℕ) (cs : List CheckedData) (known : Option ℕ) → count_after q cs known ≡ option_or known (first_count cs q)
count_after-is q [] known = sym (option_or-none known)
count_after-is q (c ∷ cs) known =
    count_after-is q cs (option_or known (count_of q c))
    ∙ option_or-assoc known (count_of q c) (first_count cs q)
    ∙ ap (option_or known) (sym (first_more q c cs))

uses_are : (q : List ℕ) (k : ℕ) (cs : List CheckedData) → list_any (uses_in q k) cs ≡ uses_slot (of_package cs q) k
uses_are q k [] = refl
uses_are q k (c ∷ cs) = by (is_part_of q c) (uses_are q k cs)
  where
    by : (b : Bool) → list_any (uses_in q k) cs ≡ uses_slot (of_package cs q) k
        → ((b && is_slot_number k (slot_value c.slot)) || list_any (uses_in q k) cs) ≡ uses_slot (cond b (c ∷ of_package cs q) (of_package cs q)) k
    by true h = ap (λ (rest : Bool). is_slot_number k (slot_value c.slot) || rest) h
    by false h = h

-- what is found on the slots of a row is what is found on those of its package
pub all_unused-are : (cs : List CheckedData) (rows : SlotRows) → AreSlotsOf cs rows → (q : List ℕ) → all_unused_in (row_at rows q) q ≡ unused_slots cs q
all_unused-are cs rows are q =
    ap (λ (n : Option ℕ). flat_map (unused_in (row_at rows q) q) (range_with_len 1 (unwrap_or n 0))) (are.counts q ∙ count_after-is q cs None)
    ∙ flat_map_same (unused_in (row_at rows q) q) (unused_slot (of_package cs q) q) (λ k. rw (are.used q k, uses_are q k cs) refl)
    (range_with_len 1 (unwrap_or (first_count cs q) 0))
