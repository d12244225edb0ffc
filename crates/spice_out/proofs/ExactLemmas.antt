-- A package has n pin numbers, the digits of 1 to n among them, exactly where these are all.
use Rattle.std.proofs.Common.{◌≡◌, ◌≢◌, ◌↔◌, ◌∙◌, ℕ, zero, suc, ◌+◌, ◌-◌, ◌≤◌, ◌<◌, ◌^◌, ◌==◌, ◌||◌, Bool, true, false, cond, List, [], ◌∷◌, ◌++◌, Some, Contains, decimal, fold, length, map, refl, sym, ap, subst, arith, true≢false}
use Rattle.std.specs.Prelude.{All}
use Rattle.std.specs.Cmp.Lexicographic.{nat_list_eq_equiv}
use Rattle.std.specs.List.{IsDistinct, find, list_all, list_any, range_with_len}
use Rattle.std.specs.Option.{is_some, option_map}
use Rattle.std.specs.Str.{bytes_eq}
use Rattle.std.proofs.lemmas.Bool.{and_parts}
use Rattle.std.proofs.lemmas.Fmt.{decimal_injective}
use Rattle.std.proofs.lemmas.List.{length-map}
use Rattle.std.proofs.lemmas.List.Elements.{All-cons, All-contains_itself, All-weaker}
use Rattle.std.proofs.lemmas.List.Folds.{Any-from_list_any}
use Rattle.std.proofs.lemmas.List.FromFn.{get_or-range_with_len, length-range_with_len}
use Rattle.std.proofs.lemmas.Map.Made.{IsDistinct-from_AllPairs, length-le_from_is_member}
use Rattle.std.proofs.lemmas.Map.Views.{list_any-from_Contains}
use Rattle.std.proofs.lemmas.Slice.Eq.{bytes_eq-Decides}
use Rattle.geda_defs.specs.Lists.{with_new}
use Rattle.geda_defs.proofs.Bytes.{bytes_same, bytes_true, bytes_turned}
use Rattle.hierarchy.proofs.ListLemmas.{all_map, all_none, contains_map}
use Rattle.net_names.proofs.ApartLemmas.{Apart, apart_append, as_pairs}
use Rattle.pin_place.proofs.TableLemmas.{has-with_new}
use Rattle.spice_out.specs.Pins.{PinData, first_at, has_numbered_pins, has_pin, numbers_of}
use Rattle.spice_out.specs.SpiceLaws.{AreDigitsTo, IsDigitsTo}
use Rattle.spice_out.proofs.PinLemmas.{in_range, not_any}

-- ---- texts, each once

has_over : (a b c : Bool) → ((a || (b || false)) || c) ≡ (a || (b || c))
has_over true b c = refl
has_over false true c = refl
has_over false false c = refl

fold_has : (q : List ℕ) (known xs : List (List ℕ)) → list_any (bytes_eq q) (fold with_new known xs) ≡ (list_any (bytes_eq q) known || list_any (bytes_eq q) xs)
fold_has q known [] = by (list_any (bytes_eq q) known)
  where
    by : (b : Bool) → b ≡ (b || false)
    by true = refl
    by false = refl
fold_has q known (x ∷ xs) =
    fold_has q (with_new known x) xs
    ∙ ap (λ (b : Bool). b || list_any (bytes_eq q) xs) (has-with_new q x known)
    ∙ has_over (list_any (bytes_eq q) known) (bytes_eq q x) (list_any (bytes_eq q) xs)

new_apart : (texts : List (List ℕ)) (v : List ℕ) → Apart ◌≢◌ texts → Apart ◌≢◌ (with_new texts v)
new_apart texts v apart = by (list_any (bytes_eq v) texts) refl
  where
    by : (b : Bool) → list_any (bytes_eq v) texts ≡ b → Apart ◌≢◌ (cond b texts (texts ++ v ∷ []))
    by true on = apart
    by false off = apart_append ◌≢◌ texts (v ∷ []) apart (all_none (λ y. v ≢ y), tt)
        (All-weaker (Contains texts) (λ x. All (λ y. x ≢ y) (v ∷ []))
        (λ x there. All-cons (λ y. x ≢ y) v [] (λ same. true≢false (sym (bytes_true v x (sym same)) ∙ not_any (bytes_eq v) texts x off there)) (all_none (λ y. x ≢ y)))
        texts (All-contains_itself texts))

fold_apart : (known xs : List (List ℕ)) → Apart ◌≢◌ known → Apart ◌≢◌ (fold with_new known xs)
fold_apart known [] apart = apart
fold_apart known (x ∷ xs) apart = fold_apart (with_new known x) xs (new_apart known x apart)

distinct : (texts : List (List ℕ)) → Apart ◌≢◌ texts → IsDistinct bytes_eq texts
distinct texts apart = IsDistinct-from_AllPairs bytes_eq-Decides texts (as_pairs ◌≢◌ texts apart)

-- ---- the digits of a range

abbrev digits_from : ℕ → ℕ → List (List ℕ)
digits_from a n = map decimal (range_with_len a n)

digits_apart : (a n : ℕ) → a + n ≤ 2 ^ 64 → Apart ◌≢◌ (digits_from a n)
digits_apart a zero few = tt
digits_apart a (suc n) few = (
  all_map (λ text. decimal a ≢ text) decimal (range_with_len (a + 1) n)
      (λ k d lt same.
      let here = lt_of k lt in
      let at = get_or-range_with_len (a + 1) n k d here in
      let one = decimal_injective a (a + 1 + k) (omega (arith, few)) (omega (arith, few, here)) (same ∙ ap decimal at) in
      absurd (omega (arith, one))),
  digits_apart (a + 1) n (omega (arith, few)),
)
  where
    lt_of : (k : ℕ) → k < length (range_with_len (a + 1) n) → k < n
    lt_of k lt = let len = length-range_with_len (a + 1) n in omega (arith, lt, len)

-- a text among them is the digits of one
digits_of : (q : List ℕ) (a n : ℕ) → list_any (bytes_eq q) (digits_from a n) ≡ true → (k : ℕ) × (a ≤ k) × (k < a + n) × (q ≡ decimal k)
digits_of q a zero has = absurd (true≢false (sym has))
digits_of q a (suc n) has = by (bytes_eq q (decimal a)) refl has (λ rest. digits_of q (a + 1) n rest)
  where
    by : (b : Bool) → bytes_eq q (decimal a) ≡ b → (b || list_any (bytes_eq q) (digits_from (a + 1) n)) ≡ true
        → (list_any (bytes_eq q) (digits_from (a + 1) n) ≡ true → (k : ℕ) × (a + 1 ≤ k) × (k < a + 1 + n) × (q ≡ decimal k))
        → (k : ℕ) × (a ≤ k) × (k < a + suc n) × (q ≡ decimal k)
    by true e has later = (a, omega arith, omega arith, bytes_same q (decimal a) e)
    by false e has later = let r = later has in let low = r.1 in let high = r.2 in (r.0, omega (arith, low), omega (arith, high), r.3)

-- ---- pin numbers

first_is : (pins : List PinData) (q : List ℕ) → is_some (first_at pins q) ≡ list_any (bytes_eq q) (map (λ p. p.number) pins)
first_is [] q = refl
first_is (p ∷ ps) q = by (bytes_eq p.number q) refl (first_is ps q)
  where
    by : (b : Bool) → bytes_eq p.number q ≡ b → is_some (first_at ps q) ≡ list_any (bytes_eq q) (map (λ p. p.number) ps)
        → is_some (option_map (λ p. p.at) (cond b (Some p) (find (λ p. bytes_eq p.number q) ps))) ≡ (bytes_eq q p.number || list_any (bytes_eq q) (map (λ p. p.number) ps))
    by true e rest = rw (bytes_turned q p.number, e) refl
    by false e rest = rw (bytes_turned q p.number, e) rest

there : (xs : List (List ℕ)) (q : List ℕ) → list_any (bytes_eq q) xs ≡ true → Contains xs q
there xs q has =
    let any = Any-from_list_any (bytes_eq q) xs has in
    subst (λ (y : List ℕ). Contains xs y) (sym (bytes_same q any.1 any.4)) (any.0, any.2, any.3)

module _ (n : ℕ) (few : n < 2 ^ 64) (pins : List PinData) where
  abbrev numbers : List (List ℕ)
  numbers = map (λ p. p.number) pins

  once_has : (q : List ℕ) → list_any (bytes_eq q) (numbers_of pins) ≡ list_any (bytes_eq q) numbers
  once_has q = fold_has q [] numbers

  once_distinct : IsDistinct bytes_eq (numbers_of pins)
  once_distinct = distinct (numbers_of pins) (fold_apart [] numbers tt)

  many : length (digits_from 1 n) ≡ n
  many = length-map (range_with_len 1 n) decimal ∙ length-range_with_len 1 n

  count_is : (m : ℕ) → (m == n) ≡ true → m ≡ n
  count_is m e = grind (arith)

  is_count : (m : ℕ) → m ≡ n → (m == n) ≡ true
  is_count m e = grind (arith)

  -- a number beside those of 1 to n is one too many
  only : has_numbered_pins n pins ≡ true → (q : List ℕ) → Contains numbers q → IsDigitsTo n q
  only has q c = by (list_any (bytes_eq q) (digits_from 1 n)) refl
    where
      parts : ((length (numbers_of pins) == n) ≡ true) × (list_all (has_pin pins) (range_with_len 1 n) ≡ true)
      parts = and_parts (length (numbers_of pins) == n) (list_all (has_pin pins) (range_with_len 1 n)) has

      known : (r : List ℕ) → list_any (bytes_eq r) (digits_from 1 n) ≡ true → list_any (bytes_eq r) (numbers_of pins) ≡ true
      known r e =
          let d = digits_of r 1 n e in
          let high = d.2 in
          once_has r ∙ sym (first_is pins r) ∙ ap (λ (text : List ℕ). is_some (first_at pins text)) d.3 ∙ in_range (has_pin pins) 1 n d.0 parts.1 d.1 high

      split : (r : List ℕ) (b : Bool) → bytes_eq r q ≡ b → (b || list_any (bytes_eq r) (digits_from 1 n)) ≡ true → list_any (bytes_eq r) (numbers_of pins) ≡ true
      split r true is e = once_has r ∙ list_any-from_Contains nat_list_eq_equiv r numbers (subst (Contains numbers) (sym (bytes_same r q is)) c)
      split r false is e = known r e

      each : (r : List ℕ) → list_any (bytes_eq r) (q ∷ digits_from 1 n) ≡ true → list_any (bytes_eq r) (numbers_of pins) ≡ true
      each r e = split r (bytes_eq r q) refl e

      by : (b : Bool) → list_any (bytes_eq q) (digits_from 1 n) ≡ b → IsDigitsTo n q
      by true e = let d = digits_of q 1 n e in let high = d.2 in (d.0, d.1, omega (arith, high), d.3)
      by false e =
          let apart : Apart ◌≢◌ (q ∷ digits_from 1 n) = (
            All-weaker (Contains (digits_from 1 n)) (λ y. q ≢ y) (λ y in_digits same. true≢false (sym (bytes_true q y same) ∙ not_any (bytes_eq q) (digits_from 1 n) y e in_digits)) (digits_from 1 n) (All-contains_itself (digits_from 1 n)),
            digits_apart 1 n (omega (arith, few)),
          ) in
          let le = length-le_from_is_member nat_list_eq_equiv (q ∷ digits_from 1 n) (numbers_of pins) (distinct (q ∷ digits_from 1 n) apart) each in
          let count : length (numbers_of pins) ≡ n = count_is (length (numbers_of pins)) parts.0 in
          absurd (omega (arith, le, count, many))

  each_there : has_numbered_pins n pins ≡ true → (q : List ℕ) → IsDigitsTo n q → Contains numbers q
  each_there has q (k, low, high, is) =
      let parts = and_parts (length (numbers_of pins) == n) (list_all (has_pin pins) (range_with_len 1 n)) has in
      there numbers q (sym (first_is pins q) ∙ ap (λ (text : List ℕ). is_some (first_at pins text)) is ∙ in_range (has_pin pins) 1 n k parts.1 low (omega (arith, high)))

  -- where they are all, there are n
  all_pass : (f : ℕ → Bool) (a m : ℕ) → ((k : ℕ) → a ≤ k → k < a + m → f k ≡ true) → list_all f (range_with_len a m) ≡ true
  all_pass f a zero pass = refl
  all_pass f a (suc m) pass = rw (pass a (omega arith) (omega arith), all_pass f (a + 1) m (λ k low high. pass k (omega (arith, low)) (omega (arith, high)))) refl

  back : AreDigitsTo n pins → has_numbered_pins n pins ≡ true
  back are = rw (is_count (length (numbers_of pins)) (omega (arith, least, most, many)), passes) refl
    where
      has_digits : (k : ℕ) → 1 ≤ k → k < 1 + n → list_any (bytes_eq (decimal k)) numbers ≡ true
      has_digits k low high = list_any-from_Contains nat_list_eq_equiv (decimal k) numbers ((are (decimal k)).1 (k, low, omega (arith, high), refl))

      passes : list_all (has_pin pins) (range_with_len 1 n) ≡ true
      passes = all_pass (has_pin pins) 1 n (λ k low high. first_is pins (decimal k) ∙ has_digits k low high)

      least : length (digits_from 1 n) ≤ length (numbers_of pins)
      least = length-le_from_is_member nat_list_eq_equiv (digits_from 1 n) (numbers_of pins) (distinct (digits_from 1 n) (digits_apart 1 n (omega (arith, few))))
          (λ q e.
          let d = digits_of q 1 n e in
          once_has q ∙ ap (λ (text : List ℕ). list_any (bytes_eq text) numbers) d.3 ∙ has_digits d.0 d.1 d.2)

      has_one : (k : ℕ) → 1 ≤ k → k ≤ n → Contains (digits_from 1 n) (decimal k)
      has_one k low high =
          let len = length-range_with_len 1 n in
          let at : 1 + (k - 1) ≡ k = omega (arith, low) in
          contains_map decimal (range_with_len 1 n) k (k - 1, omega (arith, len, low, high), get_or-range_with_len 1 n (k - 1) k (omega (arith, low, high)) ∙ at)

      in_digits : (q : List ℕ) → IsDigitsTo n q → list_any (bytes_eq q) (digits_from 1 n) ≡ true
      in_digits q d = list_any-from_Contains nat_list_eq_equiv q (digits_from 1 n) (subst (Contains (digits_from 1 n)) (sym d.3) (has_one d.0 d.1 d.2))

      most : length (numbers_of pins) ≤ length (digits_from 1 n)
      most = length-le_from_is_member nat_list_eq_equiv (numbers_of pins) (digits_from 1 n) once_distinct
          (λ q e. in_digits q ((are q).0 (there numbers q (sym (once_has q) ∙ e))))

  pub exact : (has_numbered_pins n pins ≡ true) ↔ AreDigitsTo n pins
  exact = (λ has. λ q. (only has q, each_there has q), back)
