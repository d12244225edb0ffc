-- The number that is given is free, where fewer texts are in use than there are numbers.
use Rattle.std.proofs.Common.{◌≡◌, ◌≢◌, ℕ, zero, suc, ◌+◌, ◌-◌, ◌<◌, ◌≤◌, ◌^◌, Bool, true, false, cond, List, decimal, get_or, length, map, refl, sym, subst, ◌∙◌, arith, inl, inr}
use Rattle.std.specs.Prelude.{AllPairs}
use Rattle.std.specs.Cmp.{IsEquivalence}
use Rattle.std.specs.List.{range_with_len}
use Rattle.std.specs.Set.{is_member}
use Rattle.std.specs.Str.{bytes_eq}
use Rattle.std.proofs.lemmas.Bool.{cases_lt}
use Rattle.std.proofs.lemmas.Fmt.{decimal_injective}
use Rattle.std.proofs.lemmas.List.{append_cancel_left}
use Rattle.std.proofs.lemmas.List.FromFn.{get_or-map-range_with_len, length-map-range_with_len}
use Rattle.std.proofs.lemmas.Map.Made.{IsDistinct-from_AllPairs, length-le_from_is_member}
use Rattle.std.proofs.lemmas.Map.Views.{Contains-from_any}
use Rattle.std.proofs.lemmas.Slice.Eq.{bytes_eq-Decides}
use Rattle.project_model.proofs.Rows.{key_equal, names}
use Rattle.refdes_renum.specs.Laws.{IsLeastFree}
use Rattle.refdes_renum.specs.Numbers.{first_free, greatest_u64, is_taken, least_free, stem_with_number}
use Rattle.refdes_renum.proofs.NumberLemmas.{first_free-below, first_free-from, first_free-to}

-- the number at which a search ends before its end is free
free_before : (taken : ℕ → Bool) (n more : ℕ) → first_free taken n more < n + more → taken (first_free taken n more) ≡ false
free_before taken n zero h = absurd (omega (arith, h))
free_before taken n (suc more) h = by (taken n) refl h (free_before taken (n + 1) more)
  where
    by : (b : Bool) → taken n ≡ b → cond b (first_free taken (n + 1) more) n < n + suc more
        → (first_free taken (n + 1) more < (n + 1) + more → taken (first_free taken (n + 1) more) ≡ false)
        → taken (cond b (first_free taken (n + 1) more) n) ≡ false
    by true e below later = later (omega (arith, below))
    by false e below later = e

-- numbers of 64 bits with one text are one
same_number : (stem : List ℕ) (m n : ℕ) → m < 2 ^ 64 → n < 2 ^ 64 → stem_with_number stem m ≡ stem_with_number stem n → m ≡ n
same_number stem m n h k e = decimal_injective m n h k (append_cancel_left stem (decimal m) (decimal n) e)

module _ (used : List (List ℕ)) (stem : List ℕ) (count : ℕ) (small : 1 + count ≤ 2 ^ 64) where
  abbrev texts : List (List ℕ)
  texts = map (stem_with_number stem) (range_with_len 1 count)

  many : length texts ≡ count
  many = length-map-range_with_len (stem_with_number stem) 1 count

  text_at : (k : ℕ) (d : List ℕ) → k < count → get_or texts k d ≡ stem_with_number stem (1 + k)
  text_at k d h = get_or-map-range_with_len (stem_with_number stem) 1 count k (1 + k) d h refl

  apart : AllPairs (λ (x y : List ℕ). x ≢ y) texts
  apart i j d lt h e =
      let below : j < count = subst (λ n. j < n) many h in
      let low : i < count = omega (arith, lt, below) in
      let same : stem_with_number stem (1 + i) ≡ stem_with_number stem (1 + j) = sym (text_at i d low) ∙ e ∙ text_at j d below in
      let one : 1 + i ≡ 1 + j = same_number stem (1 + i) (1 + j) (omega (arith, low, small)) (omega (arith, below, small)) same in
      absurd (omega (arith, one, lt))

  -- where so many numbers from 1 on are taken, as many texts are in use
  as_many : ((n : ℕ) → 1 ≤ n → n < 1 + count → is_taken used stem n ≡ true) → count ≤ length used
  as_many taken =
      let laws : IsEquivalence bytes_eq = key_equal names in
      let in_use : (q : List ℕ) → is_member bytes_eq texts q ≡ true → is_member bytes_eq used q ≡ true =
      λ q h.
      let there = Contains-from_any (λ x y. (bytes_eq-Decides x y).0) q texts h in
      let below : there.0 < count = subst (λ n. there.0 < n) many there.1 in
      let is : stem_with_number stem (1 + there.0) ≡ q = sym (text_at there.0 q below) ∙ there.2 in
      subst (λ (t : List ℕ). is_member bytes_eq used t ≡ true) is (taken (1 + there.0) (omega arith) (omega (arith, below))) in
      subst (λ n. n ≤ length used) many
      (length-le_from_is_member laws texts used (IsDistinct-from_AllPairs bytes_eq-Decides texts apart) in_use)

-- so one of all numbers from 1 on is free
free_end : (used : List (List ℕ)) (stem : List ℕ) → length used < greatest_u64 → ((n : ℕ) → 1 ≤ n → n < greatest_u64 → is_taken used stem n ≡ true)
    → is_taken used stem greatest_u64 ≡ false
free_end used stem few before = by (is_taken used stem greatest_u64) refl
  where
    by : (b : Bool) → is_taken used stem greatest_u64 ≡ b → b ≡ false
    by false e = refl
    by true e =
        let all : (n : ℕ) → 1 ≤ n → n < 1 + greatest_u64 → is_taken used stem n ≡ true =
        λ n low high. elim (cases_lt n greatest_u64) [
          | inl below ↦ before n low below
          | inr at ↦ subst (λ k. is_taken used stem k ≡ true) (omega (arith, at, high)) e
        ] in
        let room : 1 + greatest_u64 ≤ 2 ^ 64 = omega arith in
        let most : greatest_u64 ≤ length used = as_many used stem greatest_u64 room all in
        absurd (omega (arith, most, few))

free_at : (used : List (List ℕ)) (stem : List ℕ) (more : ℕ) → 1 + more ≡ greatest_u64 → length used < greatest_u64
    → is_taken used stem (first_free (is_taken used stem) 1 more) ≡ false
free_at used stem more end few = elim (cases_lt (first_free (is_taken used stem) 1 more) greatest_u64) [
  | inl below ↦ free_before (is_taken used stem) 1 more (omega (arith, below, end))
  | inr past ↦
      let high = first_free-to (is_taken used stem) 1 more in
      let at : greatest_u64 ≡ first_free (is_taken used stem) 1 more = omega (arith, past, high, end) in
      subst (λ k. is_taken used stem k ≡ false) at
      (free_end used stem few (λ n low below. first_free-below (is_taken used stem) 1 more n low (omega (arith, below, at))))
]

-- the number that is given is the least that is free
pub least_is_free : (used : List (List ℕ)) (stem : List ℕ) → length used < greatest_u64 → IsLeastFree used stem (least_free used stem)
unfolding least_free
least_is_free used stem few =
    let end : 1 + (greatest_u64 - 1) ≡ greatest_u64 = omega arith in
    record {
      from_one = first_free-from (is_taken used stem) 1 (greatest_u64 - 1);
      free = free_at used stem (greatest_u64 - 1) end few;
      taken = λ n low below. first_free-below (is_taken used stem) 1 (greatest_u64 - 1) n low below;
    }
