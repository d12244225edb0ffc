-- A line that ends in a number is the content of a text.
use Rattle.std.proofs.Common.{◌≡◌, ◌==◌, ◌&&◌, ◌||◌, ◌∙◌, ◌<◌, ◌^◌, ℕ, Bool, true, false, cond, List, [], ◌∷◌, ◌++◌, Option, None, Some, Result, Ok, Err, IfOk, length, decimal, codes, refl, sym, subst, arith, rules, eqb, append_assoc}
use Rattle.std.specs.List.{list_all}
use Rattle.std.specs.Char.{is_ascii_digit}
use lib.Utf8.{encode}
use Rattle.std.specs.Str.{IsUtf8, is_utf8, chars}
use Rattle.std.specs.Str.Parse.{digits_value}
use Rattle.std.proofs.lemmas.Bool.{and_parts}
use Rattle.std.proofs.lemmas.Bool.Decides.{nat_tests}
use Rattle.std.proofs.lemmas.Fmt.{IsAscii-decimal, decimal_nonempty, digits_decimal}
use Rattle.std.proofs.lemmas.List.Folds.{list_all-append}
use Rattle.std.proofs.lemmas.Str.{IsUtf8-append, IsUtf8-from_ascii, is_utf8-from_IsUtf8, IsUtf8-from_is_utf8}
use Rattle.std.proofs.lemmas.Str.Parse.{IsNumeralModel, numerals_by_value}
use Rattle.geda_model.specs.Ranges.{IsContent, has_cr_end, line_feeds}
use Rattle.geda_model.specs.Sheets.{ObjectData, SymbolData}
use Rattle.attr_rules.specs.Attributes.{attr}
use Rattle.attr_rules.specs.Components.{if_line, is_no_feed, refdes_of}
use Rattle.edit_attr.specs.Attributes.{attr_line}
use Rattle.refdes_renum.specs.Numbers.{stem_with_number, stem_of, unless_last_mark}
use Rattle.refdes_renum.specs.steps.UsedTexts.{HasNoFeed, IsFeedless}

line_feedless : (value : Option (List ℕ)) → HasNoFeed (if_line value)
line_feedless None = tt
line_feedless (Some value) = by (list_all is_no_feed value) refl
  where
    by : (b : Bool) → list_all is_no_feed value ≡ b → HasNoFeed (if_line (Some value))
    by true on = rw on on
    by false off = rw off tt

-- a refdes has no LF
pub refdes_feedless : (o : ObjectData) (library : Option SymbolData) → HasNoFeed (refdes_of o library)
refdes_feedless o library = line_feedless (attr o library (codes "refdes"))

kept : (b : ℕ) (bs : List ℕ) → is_no_feed b ≡ true → IsFeedless bs → IsFeedless (unless_last_mark b bs)
kept b [] this h = by (b == 63)
  where
    by : (c : Bool) → IsFeedless (cond c [] (b ∷ []))
    by true = refl
    by false = rw this refl
kept b (c ∷ cs) this h = rw this h

-- nor has its stem
pub stem_feedless : (bs : List ℕ) → IsFeedless bs → IsFeedless (stem_of bs)
stem_feedless [] h = refl
stem_feedless (b ∷ bs) h =
    let parts = and_parts (is_no_feed b) (list_all is_no_feed bs) h in
    kept b (stem_of bs) parts.0 (stem_feedless bs parts.1)

no_feeds : (bs : List ℕ) → IsFeedless bs → line_feeds bs ≡ 0
no_feeds [] h = refl
no_feeds (b ∷ bs) h =
    let parts = and_parts (is_no_feed b) (list_all is_no_feed bs) h in
    let test = parts.0 in
    let other : eqb b 10 ≡ false = grind (arith, nat_tests) in
    rw (other, no_feeds bs parts.1) refl

digit_plain : (b : ℕ) → is_ascii_digit b ≡ true → (is_no_feed b ≡ true) × (eqb b 13 ≡ false) × (eqb b 10 ≡ false)
digit_plain b h = (grind (arith, nat_tests), grind (arith, nat_tests), grind (arith, nat_tests))

digits_feedless : (ds : List ℕ) → list_all is_ascii_digit ds ≡ true → IsFeedless ds
digits_feedless [] h = refl
digits_feedless (d ∷ ds) h =
    let parts = and_parts (is_ascii_digit d) (list_all is_ascii_digit ds) h in
    rw ((digit_plain d parts.0).0, digits_feedless ds parts.1) refl

digits_end : (ds : List ℕ) → list_all is_ascii_digit ds ≡ true → has_cr_end ds ≡ false
digits_end [] h = refl
digits_end (d ∷ ds) h =
    let parts = and_parts (is_ascii_digit d) (list_all is_ascii_digit ds) h in
    rw ((digit_plain d parts.0).1, digits_end ds parts.1) refl

-- digits stand behind each of its bytes
no_end : (bs ds : List ℕ) → IsFeedless bs → 0 < length ds → list_all is_ascii_digit ds ≡ true → has_cr_end (bs ++ ds) ≡ false
no_end [] ds h some digits = digits_end ds digits
no_end (b ∷ []) [] h some digits = absurd (omega (arith, some))
no_end (b ∷ []) (d ∷ ds) h some digits =
    let parts = and_parts (is_ascii_digit d) (list_all is_ascii_digit ds) digits in
    rw ((digit_plain d parts.0).2, digits_end (d ∷ ds) digits) (by (b == 13))
  where
    by : (c : Bool) → ((c && false) || false) ≡ false
    by true = refl
    by false = refl
no_end (b ∷ c ∷ cs) ds h some digits =
    let parts = and_parts (is_no_feed b) (list_all is_no_feed (c ∷ cs)) h in
    let inner = and_parts (is_no_feed c) (list_all is_no_feed cs) parts.1 in
    let test = inner.0 in
    let other : eqb c 10 ≡ false = grind (arith, nat_tests) in
    rw (other, no_end (c ∷ cs) ds parts.1 some digits) (by (b == 13))
  where
    by : (c : Bool) → ((c && false) || false) ≡ false
    by true = refl
    by false = refl

own : IsNumeralModel (λ ds. list_all is_ascii_digit ds ≡ true) (digits_value 10)
own = numerals_by_value _ (search rules)

digits_of : (n : ℕ) → n < 2 ^ 64 → list_all is_ascii_digit (decimal n) ≡ true
digits_of n h = digits_decimal own n h

front_utf8 : is_utf8 (codes "refdes=") ≡ true
unfolding is_utf8 chars encode
front_utf8 = refl

-- the line of a refdes with a number is the content of a text
pub numbered_content : (stem : List ℕ) (n : ℕ) → IsUtf8 stem → IsFeedless stem → n < 2 ^ 64 → IsContent (attr_line (codes "refdes") (stem_with_number stem n))
numbered_content stem n text h small =
    let front = codes "refdes=" ++ stem in
    let digits = digits_of n small in
    let no_feed : IsFeedless front = h in
    let whole : IsFeedless (front ++ decimal n) = list_all-append is_no_feed front (decimal n) ∙ rw (no_feed, digits_feedless (decimal n) digits) refl in
    subst IsContent (append_assoc (codes "refdes=") stem (decimal n)) (record {
      text = is_utf8-from_IsUtf8 (front ++ decimal n) (IsUtf8-append front (decimal n) (IsUtf8-append (codes "refdes=") stem (IsUtf8-from_is_utf8 (codes "refdes=") front_utf8) text) (IsUtf8-from_ascii (decimal n) (IsAscii-decimal n small)));
      lines = rw (no_feeds (front ++ decimal n) whole) (omega arith);
      no_cr = no_end front (decimal n) no_feed (decimal_nonempty n small) digits;
    })

-- so is that of a text that is given
pub refdes_content : {S E : Type 0} (bytes : S → List ℕ) (r : Result S E) (stem : List ℕ) (n : ℕ) → IfOk r (λ t. bytes t ≡ stem_with_number stem n) → IfOk r (λ t. n < 2 ^ 64)
    → IsUtf8 stem → IsFeedless stem → IfOk r (λ t. IsContent (attr_line (codes "refdes") (bytes t)))
refdes_content bytes (Ok t) stem n e h text feedless = subst (λ x. IsContent (attr_line (codes "refdes") x)) (sym e) (numbered_content stem n text feedless h)
refdes_content bytes (Err f) stem n e h text feedless = tt
