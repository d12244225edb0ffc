-- Words, and those that begin with `EMBEDDED`.
use Rattle.std.proofs.Common.{◌≡◌, ◌≤◌, ◌<◌, ℕ, Bool, true, false, cond, Result, List, [], ◌∷◌, ◌++◌, length, Ok, Err, take, drop, refl, ap, sym, subst, codes, arith, ◌∙◌, nat_le}
use Rattle.std.specs.Str.{is_utf8, IsAscii}
use Rattle.std.proofs.lemmas.Str.{IsUtf8-drop, IsUtf8-append, IsUtf8-from_ascii, IsUtf8-from_is_utf8, is_utf8-from_IsUtf8, IsCharBoundary-after_ascii}
use Rattle.std.proofs.lemmas.Str.Ascii.{IsAscii-cons}
use Rattle.std.proofs.lemmas.Bool.Decides.{nat_tests}
use Rattle.std.proofs.lemmas.List.{take-append-drop}
use Rattle.geda_defs.proofs.Bytes.{bytes_same}
use Rattle.geda_model.specs.Names.{IsWord, is_word}
use Rattle.geda_model.proofs.WordTests.{is_word-from_IsWord, IsWord-from_is_word}
use Rattle.geda_grammar.specs.declared.kind.ReadKind.TheVariants.{OutOfRange}
use Rattle.geda_grammar.specs.Rows.{is_embedding}
use Rattle.sheet_lines.specs.declared.fault.LineFault.{LineFault}
use Rattle.sheet_lines.specs.declared.fault.LineFault.TheVariants as faults
use Rattle.sheet_lines.specs.steps.Results.{◌>>=◌, Fails}
use Rattle.sheet_lines.specs.steps.Fields.{word_in}

-- a word is read as itself
pub word_is_read : (bs : List ℕ) → IsWord bs → word_in bs ≡ Ok bs
unfolding word_in
word_is_read bs h = rw (is_word-from_IsWord bs h) refl

-- and nothing else is
pub no_word : (bs : List ℕ) → ¬ (IsWord bs) → word_in bs ≡ Err OutOfRange
unfolding word_in
no_word bs h = go (is_word bs) refl
  where
    go : (t : Bool) → is_word bs ≡ t → cond t (Ok bs) (Err OutOfRange) ≡ Err OutOfRange
    go true e = absurd (h (IsWord-from_is_word bs e))
    go false e = refl

pub not_utf8 : (bs : List ℕ) → is_utf8 bs ≡ false → word_in bs ≡ Err OutOfRange
unfolding word_in
not_utf8 bs h = rw h refl

pub too_long : (bs : List ℕ) → 200 < length bs → word_in bs ≡ Err OutOfRange
too_long bs h = no_word bs (λ w. absurd (omega (arith, h, w.short)))

-- ASCII bytes in front do not matter to UTF-8
same_truth : (a b : Bool) → (a ≡ true → b ≡ true) → (b ≡ true → a ≡ true) → a ≡ b
same_truth true b f g = sym (f refl)
same_truth false true f g = g refl
same_truth false false f g = refl

ascii_prefix : IsAscii (codes "EMBEDDED")
ascii_prefix = IsAscii-cons 69 (77 ∷ 66 ∷ 69 ∷ 68 ∷ 68 ∷ 69 ∷ 68 ∷ []) (omega arith) (IsAscii-cons 77 (66 ∷ 69 ∷ 68 ∷ 68 ∷ 69 ∷ 68 ∷ []) (omega arith) (IsAscii-cons 66 (69 ∷ 68 ∷ 68 ∷ 69 ∷ 68 ∷ []) (omega arith) (IsAscii-cons 69 (68 ∷ 68 ∷ 69 ∷ 68 ∷ []) (omega arith) (IsAscii-cons 68 (68 ∷ 69 ∷ 68 ∷ []) (omega arith) (IsAscii-cons 68 (69 ∷ 68 ∷ []) (omega arith) (IsAscii-cons 69 (68 ∷ []) (omega arith) (IsAscii-cons 68 ([]) (omega arith) (λ i. omega arith))))))))

utf8_behind : (bs : List ℕ) → is_utf8 (codes "EMBEDDED" ++ bs) ≡ is_utf8 bs
utf8_behind bs =
    let whole : List ℕ = codes "EMBEDDED" ++ bs in
    same_truth (is_utf8 whole) (is_utf8 bs)
    (λ e. is_utf8-from_IsUtf8 bs (IsUtf8-drop whole 8 (IsUtf8-from_is_utf8 whole e) (IsCharBoundary-after_ascii whole 7 (IsUtf8-from_is_utf8 whole e) (omega arith) (omega arith))))
    (λ e. is_utf8-from_IsUtf8 whole (IsUtf8-append (codes "EMBEDDED") bs (IsUtf8-from_ascii _ ascii_prefix) (IsUtf8-from_is_utf8 bs e)))

-- what stands behind `EMBEDDED` decides
same_test : (bs : List ℕ) → length (codes "EMBEDDED" ++ bs) ≤ 200 → is_word (codes "EMBEDDED" ++ bs) ≡ is_word bs
same_test bs h =
    let long : nat_le (length (codes "EMBEDDED" ++ bs)) 200 ≡ true = grind (arith, nat_tests, h) in
    let short : nat_le (length bs) 200 ≡ true = grind (arith, nat_tests, h) in
    rw (utf8_behind bs, long, short) refl

whole_name : (field : List ℕ) → is_embedding field ≡ true → codes "EMBEDDED" ++ drop 8 field ≡ field
whole_name field e = ap (λ (bs : List ℕ). bs ++ drop 8 field) (sym (bytes_same (take 8 field) (codes "EMBEDDED") e)) ∙ take-append-drop 8 field

same_as_rest : (field : List ℕ) → is_embedding field ≡ true → length field ≤ 200 → is_word field ≡ is_word (drop 8 field)
same_as_rest field e h =
    let whole = whole_name field e in
    ap is_word (sym whole) ∙ same_test (drop 8 field) (subst (λ (bs : List ℕ). length bs ≤ 200) (sym whole) h)

pub prefixed : (field : List ℕ) → is_embedding field ≡ true → length field ≤ 200 → word_in field ≡ word_in (drop 8 field) >>= (λ w. Ok (codes "EMBEDDED" ++ w))
unfolding word_in
prefixed field e h = ap (λ (t : Bool). cond t (Ok field) (Err OutOfRange)) (same_as_rest field e h) ∙ go (is_word (drop 8 field))
  where
    go : (t : Bool) → cond t (Ok field) (Err OutOfRange) ≡ cond t (Ok (drop 8 field)) (Err OutOfRange) >>= (λ w. Ok (codes "EMBEDDED" ++ w))
    go true = ap Ok (sym (whole_name field e))
    go false = refl

pub prefixed_word : (field name : List ℕ) → is_embedding field ≡ true → length field ≤ 200 → word_in (drop 8 field) ≡ Ok name → word_in field ≡ Ok (codes "EMBEDDED" ++ name)
prefixed_word field name e h is = rw (prefixed field e h, is) refl

pub prefixed_fails : (field : List ℕ) (fault : LineFault) → is_embedding field ≡ true → length field ≤ 200 → Fails fault (word_in (drop 8 field)) → Fails fault (word_in field)
prefixed_fails field faults.NoMemory e h is = tt
prefixed_fails field (faults.Refused kind) e h is = rw (prefixed field e h, is) refl

same_inside : {A E : Type 0} (a b : A) → (the_first : Result A E) → the_first ≡ Ok a → the_first ≡ Ok b → b ≡ a
same_inside a b r e f = cc

-- what is read as a word is the field
pub plain_word : (field name : List ℕ) → word_in field ≡ Ok name → is_embedding field ≡ false → is_embedding name ≡ false
unfolding word_in
plain_word field name is e = go (is_word field) is
  where
    go : (t : Bool) → cond t (Ok field) (Err OutOfRange) ≡ Ok name → is_embedding name ≡ false
    go true k = ap is_embedding (same_inside field name (Ok field) refl k) ∙ e
    go false k = absurd cc
