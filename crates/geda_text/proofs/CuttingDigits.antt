-- How a number of digits alone is cut off.
use Rattle.std.proofs.Common.{◌≡◌, ℕ, suc, ℤ, pos, neg_ℤ, ◌+◌, ◌<◌, ◌≤◌, ◌^◌, true, false, List, [], ◌∷◌, length, take, drop, get_or, eqb, Some, None, refl, sym, ap, subst, ◌∙◌, arith}
use Rattle.std.specs.Prelude.{slice_index}
use Rattle.std.specs.Char.{is_ascii_digit}
use Rattle.std.specs.List.{list_all, position, position_or_len}
use Rattle.std.specs.Int.{IsInRange}
use Rattle.std.specs.Str.Parse.{digits_value}
use Rattle.std.proofs.Math.Nat.{pow-le-pow_right}
use Rattle.std.proofs.lemmas.Bool.{lt-ltb, le-ltb}
use Rattle.std.proofs.lemmas.Bool.Decides.{nat_tests}
use Rattle.std.proofs.lemmas.List.{get_or-take, length-take-le, take_all}
use Rattle.std.proofs.lemmas.List.Sums.{position_or_len_is}
use Rattle.geda_text.specs.Lines.{digits_of, fields_of, first_field, is_blank, whole_of}
use Rattle.geda_text.specs.steps.Words.{BeginsWith, BeginsWithDigits, StartsWord}
use Rattle.geda_text.proofs.CuttingFields.{fields_of-some, fields_of-none}
use Rattle.geda_text.proofs.Digits.{digit_at, one_digit}

-- a field before a blank
before_blank : (bs : List ℕ) (end : ℕ) (z : ℤ) → 0 < length bs → StartsWord bs → position is_blank bs ≡ Some end → whole_of (take end bs) ≡ Some z → BeginsWith bs z (drop (end + 1) bs)
before_blank bs end z some starts found spelled =
    let cut = fields_of-some bs end some starts found in
    record {
      number = ap (λ (ws : List (List ℕ)). whole_of (first_field ws)) cut ∙ spelled;
      fields = cut ∙ ap (λ (w : List ℕ). w ∷ fields_of (drop (end + 1) bs)) (sym (ap first_field cut));
    }

-- a field before the end
before_end : (bs : List ℕ) (z : ℤ) → 0 < length bs → StartsWord bs → position is_blank bs ≡ None → whole_of bs ≡ Some z → BeginsWith bs z []
before_end bs z some starts nowhere spelled =
    let cut = fields_of-none bs some starts nowhere in
    record {
      number = ap (λ (ws : List (List ℕ)). whole_of (first_field ws)) cut ∙ spelled;
      fields = cut ∙ ap (λ (w : List ℕ). w ∷ fields_of []) (sym (ap first_field cut));
    }

starts_word : (bs : List ℕ) → is_blank (get_or bs 0 0) ≡ false → StartsWord bs
starts_word [] h = tt
starts_word (b ∷ bs) h = h

-- where a first blank stands, or none does
found : (bs : List ℕ) (end : ℕ) → position_or_len is_blank bs ≡ end → end < length bs → position is_blank bs ≡ Some end
found bs end at lt = rw (at, lt-ltb end (length bs) lt) refl

nowhere : (bs : List ℕ) (end : ℕ) → position_or_len is_blank bs ≡ end → length bs ≤ end → position is_blank bs ≡ None
nowhere bs end at le = rw (at, le-ltb end (length bs) le) refl

one_more : (n : ℕ) → 1 + n ≡ suc n
one_more n = omega arith

one_behind : (count b : ℕ) (bs : List ℕ) → drop (suc count + 1) (b ∷ bs) ≡ drop (count + 1) bs
one_behind count b bs = ap (λ (n : ℕ). drop n (b ∷ bs)) (next count)
  where
    next : (n : ℕ) → suc n + 1 ≡ suc (n + 1)
    next n = omega arith

module _ (bytes : List ℕ) (count value : ℕ) (within : count ≤ length bytes) (some : 0 < count) (few : count ≤ 9)
    (digits : list_all is_ascii_digit (take count bytes) ≡ true) (is : value ≡ digits_value 10 (take count bytes)) (below : value < 10 ^ count)
  where
    digit : (k : ℕ) → k < count → IsInRange 48 57 (get_or bytes k 0)
    digit k lt =
        let inside : k < length (take count bytes) = omega (arith, length-take-le count bytes within, lt) in
        let d = digit_at (take count bytes) k inside digits in
        rw (sym (get_or-take count bytes k 0 lt)) d

    no_blank : (k : ℕ) → k < count → is_blank (get_or bytes k 0) ≡ false
    no_blank k lt = grind (arith, nat_tests, digit k lt)

    -- the digits are up to the first blank
    ended : (count < length bytes → is_blank (get_or bytes count 0) ≡ true) → position_or_len is_blank bytes ≡ count
    ended blank = position_or_len_is is_blank bytes count 0 within no_blank blank

    small : value < 1000000000
    small =
        let power : 10 ^ count ≤ 10 ^ 9 = pow-le-pow_right {n = 10} (omega arith) few in
        omega (arith, power, below)

    no_minus : eqb (get_or bytes 0 0) 45 ≡ false
    no_minus = grind (arith, nat_tests, digit 0 some)

    spelled : whole_of (take count bytes) ≡ Some (pos value)
    unfolding whole_of digits_of
    spelled =
        let size = length-take-le count bytes within in
        let first : slice_index (take count bytes) 0 ≡ get_or bytes 0 0 = get_or-take count bytes 0 0 some in
        rw (first, no_minus, size, lt-ltb 0 count some, lt-ltb count 10 (omega (arith, few)), digits) (ap (λ n. Some (pos n)) (sym is))

    negative : whole_of (45 ∷ take count bytes) ≡ Some (neg_ℤ (pos value))
    unfolding whole_of digits_of
    negative =
        let size = length-take-le count bytes within in
        rw (size, lt-ltb 0 count some, lt-ltb count 10 (omega (arith, few)), digits) (ap (λ n. Some (neg_ℤ (pos n))) (sym is))

    starts : StartsWord bytes
    starts = starts_word bytes (no_blank 0 some)

    -- a blank ends them
    pub digits_before_blank : count < length bytes → is_blank (get_or bytes count 0) ≡ true → BeginsWithDigits bytes value (drop (count + 1) bytes)
    digits_before_blank lt blank =
        let at = ended (λ h. blank) in
        record {
          small = small;
          plain = before_blank bytes count (pos value) (omega (arith, lt)) starts (found bytes count at lt) spelled;
          minus = subst (BeginsWith (45 ∷ bytes) (neg_ℤ (pos value))) (one_behind count 45 bytes)
              (before_blank (45 ∷ bytes) (suc count) (neg_ℤ (pos value)) (omega arith) refl (found (45 ∷ bytes) (suc count) (one_more (position_or_len is_blank bytes) ∙ ap suc at) (omega (arith, lt))) negative);
        }

    -- or the end does
    pub digits_at_end : count ≡ length bytes → BeginsWithDigits bytes value []
    digits_at_end all =
        let at = ended (λ h. absurd (omega (arith, h, all))) in
        let whole : take count bytes ≡ bytes = take_all count bytes (omega (arith, all)) in
        record {
          small = small;
          plain = before_end bytes (pos value) (omega (arith, some, all)) starts (nowhere bytes count at (omega (arith, all))) (ap whole_of (sym whole) ∙ spelled);
          minus = before_end (45 ∷ bytes) (neg_ℤ (pos value)) (omega arith) refl (nowhere (45 ∷ bytes) (suc count) (one_more (position_or_len is_blank bytes) ∙ ap suc at) (omega (arith, all))) (ap (λ (w : List ℕ). whole_of (45 ∷ w)) (sym whole) ∙ negative);
        }

-- one digit alone, and one before a space
alone : (b digit : ℕ) → is_ascii_digit b ≡ true → digit + 48 ≡ b → BeginsWithDigits (b ∷ []) digit []
alone b digit is plain =
    let d = one_digit (b ∷ []) 0 0 (omega arith) (omega arith) is refl (omega arith) in
    digits_at_end (b ∷ []) 1 digit (omega arith) (omega arith) (omega arith) (rw is refl) (omega (arith, plain, d.low, d.next)) (omega (arith, plain, d.low, d.bound)) refl

spaced : (b digit : ℕ) (bs : List ℕ) → is_ascii_digit b ≡ true → digit + 48 ≡ b → BeginsWithDigits (b ∷ 32 ∷ bs) digit bs
spaced b digit bs is plain =
    let d = one_digit (b ∷ 32 ∷ bs) 0 0 (omega arith) (omega arith) is refl (omega arith) in
    digits_before_blank (b ∷ 32 ∷ bs) 1 digit (omega arith) (omega arith) (omega arith) (rw is refl) (omega (arith, plain, d.low, d.next)) (omega (arith, plain, d.low, d.bound)) (omega arith) refl

pub digit_at_end : (bytes : List ℕ) (b digit : ℕ) (after : List ℕ) → bytes ≡ b ∷ after → length after ≡ 0 → is_ascii_digit b ≡ true → digit + 48 ≡ b → BeginsWithDigits bytes digit []
digit_at_end bytes b digit [] all none is plain = rw all (alone b digit is plain)
digit_at_end bytes b digit (c ∷ cs) all none is plain = absurd (omega (arith, none))

pub digit_before_space : (bytes : List ℕ) (b digit : ℕ) (after : List ℕ) (c : ℕ) (others : List ℕ) → bytes ≡ b ∷ after → after ≡ c ∷ others → c ≡ 32 → is_ascii_digit b ≡ true → digit + 48 ≡ b → BeginsWithDigits bytes digit others
digit_before_space bytes b digit after c others all more space is plain = rw (all, more, space) (spaced b digit others is plain)
