-- Names that print as they are do not print alike where they differ.
use Rattle.std.proofs.Common.{◌≡◌, ◌∙◌, ℕ, ◌<◌, List, [], ◌∷◌, Bool, true, false, ◌&&◌, not, refl, sym, arith}
use Rattle.std.specs.List.{list_all, list_any}
use Rattle.std.specs.Str.{bytes_eq}
use Rattle.std.proofs.lemmas.Bool.Decides.{nat_tests}
use Rattle.std.proofs.lemmas.Slice.Eq.{bytes_eq-Decides}
use Rattle.std.proofs.lemmas.Bool.{and_parts}
use Rattle.geda_defs.proofs.Bytes.{bytes_same}
use Rattle.printed_texts.specs.PrintedTexts.{word, word_byte}
use Rattle.text_tallies.specs.LookAlike.{look_alike, print_alike}
use Rattle.text_tallies.specs.steps.PlainNames.{is_plain, is_plain_byte}
use Rattle.text_tallies.proofs.PairLemmas.{and_false, any_pairs}

-- a byte above a space is plain
pub plain_above : (b : ℕ) → 32 < b → true ≡ is_plain_byte b
plain_above b above = grind (arith, nat_tests)

plain_byte : (b : ℕ) → is_plain_byte b ≡ true → word_byte b ≡ b
plain_byte b plain = grind (arith, nat_tests)

-- a plain name prints as it is
plain_word : (name : List ℕ) → is_plain name ≡ true → word name ≡ name
plain_word [] plain = refl
plain_word (b ∷ name) plain =
    rw (plain_byte b ((and_parts (is_plain_byte b) (is_plain name) plain).0), plain_word name ((and_parts (is_plain_byte b) (is_plain name) plain).1)) refl

apart : (a b text : List ℕ) → (not (bytes_eq a b) && (bytes_eq a text && bytes_eq b text)) ≡ false
apart a b text = by (bytes_eq a text) (bytes_eq b text) refl refl
  where
    by : (x y : Bool) → bytes_eq a text ≡ x → bytes_eq b text ≡ y → (not (bytes_eq a b) && (x && y)) ≡ false
    by true true e f =
        let same : bytes_eq a b ≡ true = (bytes_eq-Decides a b).1 (bytes_same a text e ∙ sym (bytes_same b text f)) in
        rw same refl
    by true false e f = and_false (not (bytes_eq a b))
    by false y e f = and_false (not (bytes_eq a b))

pair_apart : (text a b : List ℕ) → is_plain a ≡ true → is_plain b ≡ true → print_alike text (a, b) ≡ false
pair_apart text a b p q = rw (plain_word a p, plain_word b q) (apart a b text)

with_apart : (text a : List ℕ) (names : List (List ℕ)) → is_plain a ≡ true → list_all is_plain names ≡ true
    → list_any (λ (b : List ℕ). print_alike text (a, b)) names ≡ false
with_apart text a [] p all = refl
with_apart text a (b ∷ names) p all =
    rw (pair_apart text a b p ((and_parts (is_plain b) (list_all is_plain names) all).0), with_apart text a names p ((and_parts (is_plain b) (list_all is_plain names) all).1)) refl

-- so no two of them differ and print alike
pub plain_none_alike : (text : List ℕ) (names : List (List ℕ)) → list_all is_plain names ≡ true
    → look_alike names text ≡ false
plain_none_alike text [] all = refl
plain_none_alike text (a ∷ names) all =
    let here = (and_parts (is_plain a) (list_all is_plain names) all).0 in
    let rest = (and_parts (is_plain a) (list_all is_plain names) all).1 in
    any_pairs (print_alike text) a names ∙ rw (with_apart text a names here rest, plain_none_alike text names rest) refl
