-- The test of words says what `IsWord` says.
use Rattle.std.proofs.Common.{◌≡◌, ℕ, true, false, ◌&&◌, List, Bool, length, get_or, nat_le, refl, arith}
use Rattle.std.specs.List.{list_all}
use Rattle.std.specs.Str.{is_utf8}
use Rattle.std.proofs.lemmas.Bool.Decides.{nat_tests}
use Rattle.std.proofs.lemmas.List.Sums.{list_all-from_AllPass, AllPass-from_list_all}
use Rattle.geda_model.specs.Names.{IsWord, IsWordByte, is_word, is_word_byte}

byte_passes : (b : ℕ) → IsWordByte b → is_word_byte b ≡ true
byte_passes b h = grind (arith, nat_tests)

IsWordByte-from_test : (b : ℕ) → is_word_byte b ≡ true → IsWordByte b
IsWordByte-from_test b h = grind (arith, nat_tests)

three : (a b c : Bool) → (a && (b && c)) ≡ true → (a ≡ true) × (b ≡ true) × (c ≡ true)
three true true true e = (refl, refl, refl)
three true true false e = absurd (let h : false ≡ true = e in cc)
three true false c e = absurd (let h : false ≡ true = e in cc)
three false b c e = absurd (let h : false ≡ true = e in cc)

-- a word passes the test
pub is_word-from_IsWord : (bs : List ℕ) → IsWord bs → is_word bs ≡ true
is_word-from_IsWord bs w =
    let bytes : list_all is_word_byte bs ≡ true =
    list_all-from_AllPass is_word_byte bs (λ k d lt. byte_passes (get_or bs k d) (w.word_bytes k d lt)) in
    let short : nat_le (length bs) 200 ≡ true = grind (arith, nat_tests, w.short) in
    rw (w.text, short, bytes) refl

-- what passes the test is a word
pub IsWord-from_is_word : (bs : List ℕ) → is_word bs ≡ true → IsWord bs
IsWord-from_is_word bs e =
    let parts = three (is_utf8 bs) (nat_le (length bs) 200) (list_all is_word_byte bs) e in
    record {
      text = parts.0;
      short = grind (arith, nat_tests, parts.1);
      word_bytes = λ k d lt. IsWordByte-from_test (get_or bs k d) (AllPass-from_list_all is_word_byte bs parts.2 k d lt);
    }
