-- Words that were written with spaces between them are read again.
use Rattle.std.proofs.Common.{zero, ◌≡◌, ℕ, suc, ◌<◌, true, false, List, [], ◌∷◌, ◌++◌, length, replicate, filter, ap, ◌∙◌, refl, arith, ℤ, pos, negsuc}
use Rattle.std.specs.List.{slice_split, AllByRecursion}
use Rattle.std.specs.Fmt.{decimal, signed_decimal}
use Rattle.std.specs.Prelude.{unsigned_abs}
use Rattle.std.specs.Str.Parse.{AllDigits}
use Rattle.std.proofs.lemmas.Fmt.{decimal_is_IsNumeral}
use Rattle.std.proofs.lemmas.Str.Parse.{digit_from_value}
use Rattle.std.proofs.lemmas.Bool.Decides.{nat_tests}
use Rattle.std.proofs.lemmas.List.Elements.{All-from_recursion}
use Rattle.std.proofs.lemmas.List.Splits.{slice_split_none, slice_split_at}
use Rattle.geda_defs.specs.Lines.{spaced, is_line_feed}
use Rattle.geda_text.specs.Lines.{is_blank, is_filled, fields_of}

-- a word that can be cut off: bytes above the space
pub record IsGraphic (w : List ℕ) : Type 0 where
  pub some : 0 < length w
  pub above : AllByRecursion (λ b. 32 < b) w

-- it has no blank
no_blank : (w : List ℕ) → AllByRecursion (λ b. 32 < b) w → AllByRecursion (λ b. is_blank b ≡ false) w
no_blank [] h = tt
no_blank (b ∷ bs) h = (grind (arith, nat_tests, h.0), no_blank bs h.1)

-- it is kept among the pieces between blanks
filled : (w : List ℕ) → 0 < length w → is_filled w ≡ true
filled [] h = absurd (omega arith)
filled (b ∷ bs) h = refl

keep_filled : (w : List ℕ) (ws : List (List ℕ)) → 0 < length w → filter is_filled (w ∷ ws) ≡ w ∷ filter is_filled ws
keep_filled w ws h = rw (filled w h) refl

-- words with one space between them
pub words_again : (ws : List (List ℕ)) → AllByRecursion IsGraphic ws → fields_of (spaced ws) ≡ ws
unfolding fields_of
words_again [] h = refl
words_again (w ∷ []) h =
    ap (filter is_filled) (slice_split_none is_blank w (All-from_recursion (λ b. is_blank b ≡ false) w (no_blank w h.0.above))) ∙ keep_filled w [] h.0.some
words_again (w ∷ v ∷ ws) h =
    ap (filter is_filled) (slice_split_at is_blank w 32 (spaced (v ∷ ws)) (All-from_recursion (λ b. is_blank b ≡ false) w (no_blank w h.0.above)) refl)
    ∙ keep_filled w (slice_split is_blank (spaced (v ∷ ws))) h.0.some
    ∙ ap (λ (xs : List (List ℕ)). w ∷ xs) (words_again (v ∷ ws) h.1)

-- what holds of the bytes of two lists
all_append : (P : ℕ → Type 0) (xs ys : List ℕ) → AllByRecursion P xs → AllByRecursion P ys → AllByRecursion P (xs ++ ys)
all_append P [] ys p q = q
all_append P (x ∷ xs) ys p q = (p.0, all_append P xs ys p.1 q)

-- a line of bytes that are no line feed
abbrev pub IsOneLine : List ℕ → Type 0
IsOneLine line = AllByRecursion (λ b. is_line_feed b ≡ false) line

-- such words stand in one line
graphic_line : (w : List ℕ) → AllByRecursion (λ b. 32 < b) w → IsOneLine w
graphic_line [] h = tt
graphic_line (b ∷ bs) h = (grind (arith, nat_tests, h.0), graphic_line bs h.1)

pub spaced_line : (ws : List (List ℕ)) → AllByRecursion IsGraphic ws → IsOneLine (spaced ws)
spaced_line [] h = tt
spaced_line (w ∷ []) h = graphic_line w h.0.above
spaced_line (w ∷ v ∷ ws) h = all_append (λ b. is_line_feed b ≡ false) w (32 ∷ spaced (v ∷ ws)) (graphic_line w h.0.above) (refl, spaced_line (v ∷ ws) h.1)

-- numbers are such words
digits_graphic : (ds : List ℕ) → AllDigits 10 ds → AllByRecursion (λ b. 32 < b) ds
digits_graphic [] h = tt
digits_graphic (d ∷ ds) h = (omega (arith, (digit_from_value d h.0).0), digits_graphic ds h.1)

pub decimal_graphic : (n : ℕ) → n < 1000000000 → IsGraphic (decimal n)
decimal_graphic n h = let d = decimal_is_IsNumeral n (omega arith) in record { some = d.0.0; above = digits_graphic (decimal n) d.0.1 }

pub number_graphic : (z : ℤ) → unsigned_abs z < 1000000000 → IsGraphic (signed_decimal z)
number_graphic (pos n) h = decimal_graphic n (omega arith)
number_graphic (negsuc n) h = record { some = omega arith; above = (omega arith, (decimal_graphic (suc n) (omega arith)).above) }

-- and so are zeros in front of one
pub zeros_graphic : (k : ℕ) (w : List ℕ) → IsGraphic w → IsGraphic (replicate k 48 ++ w)
zeros_graphic zero w h = h
zeros_graphic (suc k) w h = record { some = omega arith; above = (omega arith, (zeros_graphic k w h).above) }
