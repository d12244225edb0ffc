-- Words that are printed stay lines: UTF-8 without LF.
use Rattle.std.proofs.Common.{◌≡◌, ◌≢◌, ◌∙◌, ◌<◌, ◌≤◌, ◌+◌, ◌/◌, ◌%◌, ℕ, List, [], ◌∷◌, ◌++◌, Bool, true, false, cond, refl, ap, sym, arith, append_assoc}
use Rattle.std.specs.Prelude.{map, All, nat_lt}
use Rattle.std.specs.Str.{IsUtf8}
use Rattle.std.proofs.lemmas.Str.{IsUtf8-nil, IsUtf8-append, IsUtf8-from_is_utf8, is_utf8-from_IsUtf8, encode_ascii}
use Rattle.std.proofs.lemmas.List.Elements.{All-nil, All-append, All-cons}
use Rattle.std.proofs.lemmas.Bool.Decides.{nat_tests}
use Rattle.std.proofs.lemmas.Bool.{and_parts}
use lib.Utf8.{scalar, scalars, encode, encodes, next}
use Rattle.geda_model.specs.Names.{IsLine, IsLineByte}
use Rattle.printed_texts.specs.PrintedTexts.{word_byte, word}

word_low : (c : ℕ) → c < 128 → word_byte c < 128
word_low c h = grind (arith, nat_tests)

word_high : (b : ℕ) → 128 ≤ b → word_byte b ≡ b
word_high b h = grind (arith, nat_tests)

no_feed : (b : ℕ) → IsLineByte (word_byte b)
no_feed b = grind (arith, nat_tests)

-- the bytes of a character, by its ranges
abbrev shape : ℕ → Bool → Bool → List ℕ
shape c b d = cond b ((192 + c / 64) ∷ next c ∷ []) (cond d ((224 + c / 4096) ∷ next (c / 64) ∷ next c ∷ []) ((240 + c / 262144) ∷ next (c / 4096) ∷ next (c / 64) ∷ next c ∷ []))

shaped : (c : ℕ) → 128 ≤ c → encode c ≡ shape c (nat_lt c 2048) (nat_lt c 65536)
unfolding encode
shaped c h = let e : nat_lt c 128 ≡ false = grind (arith, nat_tests) in rw e refl

high : (n : ℕ) (k : ℕ) → 128 ≤ k → word_byte (k + n) ≡ k + n
high n k h = word_high (k + n) (omega arith)

shape_same : (c : ℕ) (b d : Bool) → map word_byte (shape c b d) ≡ shape c b d
shape_same c true d = rw (high (c / 64) 192 (omega arith), high (c % 64) 128 (omega arith)) refl
shape_same c false true = rw (high (c / 4096) 224 (omega arith), high ((c / 64) % 64) 128 (omega arith), high (c % 64) 128 (omega arith)) refl
shape_same c false false = rw (high (c / 262144) 240 (omega arith), high ((c / 4096) % 64) 128 (omega arith), high ((c / 64) % 64) 128 (omega arith), high (c % 64) 128 (omega arith)) refl

encoded : (c : ℕ) → map word_byte (encode c) ≡ encode (word_byte c)
encoded c = go (nat_lt c 128) refl
  where
    go : (b : Bool) → nat_lt c 128 ≡ b → map word_byte (encode c) ≡ encode (word_byte c)
    go true e =
        let low : c < 128 = grind (arith, nat_tests) in
        ap (map word_byte) (encode_ascii c low) ∙ sym (encode_ascii (word_byte c) (word_low c low))
    go false e =
        let up : 128 ≤ c = grind (arith, nat_tests) in
        ap (map word_byte) (shaped c up) ∙ (shape_same c (nat_lt c 2048) (nat_lt c 65536) ∙ (sym (shaped c up) ∙ ap encode (sym (word_high c up))))

map-append_words : (xs ys : List ℕ) → map word_byte (xs ++ ys) ≡ map word_byte xs ++ map word_byte ys
map-append_words [] ys = refl
map-append_words (x ∷ xs) ys = ap (λ (l : List ℕ). word_byte x ∷ l) (map-append_words xs ys)

all_encoded : (cs : List ℕ) → map word_byte (encodes cs) ≡ encodes (map word_byte cs)
all_encoded [] = refl
all_encoded (c ∷ cs) = map-append_words (encode c) (encodes cs) ∙ (ap (λ (l : List ℕ). l ++ map word_byte (encodes cs)) (encoded c) ∙ ap (λ (l : List ℕ). encode (word_byte c) ++ l) (all_encoded cs))

scalar_word : (c : ℕ) → scalar c ≡ true → scalar (word_byte c) ≡ true
scalar_word c h = grind (arith, nat_tests)

scalar_words : (cs : List ℕ) → scalars cs ≡ true → scalars (map word_byte cs) ≡ true
scalar_words [] h = refl
scalar_words (c ∷ cs) h = rw (scalar_word c ((and_parts (scalar c) (scalars cs) h).0)) (scalar_words cs ((and_parts (scalar c) (scalars cs) h).1))

IsUtf8-word : (bs : List ℕ) → IsUtf8 bs → IsUtf8 (word bs)
IsUtf8-word bs (cs, (s, e)) = (map word_byte cs, (scalar_words cs s, sym (all_encoded cs) ∙ ap (map word_byte) e))

pub empty_line : IsLine []
empty_line = record { text = is_utf8-from_IsUtf8 [] IsUtf8-nil; line_bytes = All-nil IsLineByte }

-- two lines in a row
pub line_and_line : (xs ys : List ℕ) → IsLine xs → IsLine ys → IsLine (xs ++ ys)
line_and_line xs ys x y = record {
  text = is_utf8-from_IsUtf8 _ (IsUtf8-append xs ys (IsUtf8-from_is_utf8 xs x.text) (IsUtf8-from_is_utf8 ys y.text));
  line_bytes = All-append IsLineByte xs ys x.line_bytes y.line_bytes;
}

no_feeds : (bs : List ℕ) → All IsLineByte (word bs)
no_feeds [] = All-nil IsLineByte
no_feeds (b ∷ bs) = All-cons IsLineByte _ _ (no_feed b) (no_feeds bs)

pub line_of_word : (bs : List ℕ) → IsUtf8 bs → IsLine (word bs)
line_of_word bs u = record { text = is_utf8-from_IsUtf8 _ (IsUtf8-word bs u); line_bytes = no_feeds bs }

-- a line and a word
pub line_and_word : (xs bs : List ℕ) → IsLine xs → IsUtf8 bs → IsLine (xs ++ word bs)
line_and_word xs bs x u = line_and_line xs (word bs) x (line_of_word bs u)

-- a line and a mark
pub line_and_mark : (xs : List ℕ) (b : ℕ) → IsLine xs → b < 128 → b ≢ 10 → IsLine (xs ++ b ∷ [])
line_and_mark xs b x low other = line_and_line xs (b ∷ []) x (record {
  text = is_utf8-from_IsUtf8 _ ((b ∷ []), (one, ap (λ (l : List ℕ). l ++ []) (encode_ascii b low)));
  line_bytes = All-cons IsLineByte b [] other (All-nil IsLineByte);
})
  where
    one : scalars (b ∷ []) ≡ true
    one = grind (arith, nat_tests)

-- a mark between two lists
pub mark_assoc : (xs : List ℕ) (b : ℕ) (ys : List ℕ) → (xs ++ b ∷ []) ++ ys ≡ xs ++ b ∷ ys
mark_assoc xs b ys = append_assoc xs (b ∷ []) ys

-- words after a mark, and further words
pub words_assoc : (xs : List ℕ) (b : ℕ) (ys zs : List ℕ) → (xs ++ b ∷ ys) ++ zs ≡ xs ++ b ∷ (ys ++ zs)
words_assoc xs b ys zs = append_assoc xs (b ∷ ys) zs
