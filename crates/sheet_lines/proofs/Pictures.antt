-- Lines that are added to the data of a picture.
use Rattle.std.proofs.Common.{◌≡◌, ◌≢◌, ℕ, suc, ◌-◌, Bool, true, false, ◌&&◌, List, [], ◌∷◌, ◌++◌, length, eqb, refl, ap, sym, subst, ◌∙◌, arith, inl, inr, ◌⊎◌, codes, append_assoc}
use Rattle.std.specs.Prelude.{slice_index}
use Rattle.std.specs.List.{AllByRecursion}
use Rattle.std.specs.Str.{IsUtf8}
use Rattle.std.proofs.lemmas.Bool.{ne_eqb, or_parts}
use Rattle.std.proofs.lemmas.List.{length-append}
use Rattle.std.proofs.lemmas.Str.{IsUtf8-nil, IsUtf8-append, IsUtf8-from_ascii, IsUtf8-from_is_utf8, is_utf8-from_IsUtf8}
use Rattle.std.proofs.lemmas.Str.Ascii.{IsAscii-cons}
use Rattle.geda_defs.specs.Lines.{ended}
use Rattle.geda_model.specs.Ranges.{begins_with_dot_line, has_later_dot_line, IsPictureData}
use Rattle.geda_text.specs.Lines.{IsCutLine}

-- nothing, or bytes that end in LF
abbrev EndsWell : List ℕ → Type 0
EndsWell [] = Unit {0}
EndsWell (b ∷ []) = b ≡ 10
EndsWell (b ∷ c ∷ cs) = EndsWell (c ∷ cs)

ends_well : (bs : List ℕ) → (length bs ≡ 0) ⊎ (slice_index bs (length bs - 1) ≡ 10) → EndsWell bs
ends_well [] h = tt
ends_well (b ∷ bs) (inl h) = absurd (omega (arith, h))
ends_well (b ∷ []) (inr h) = h
ends_well (b ∷ c ∷ cs) (inr h) =
    let place : length (b ∷ c ∷ cs) - 1 ≡ suc (length (c ∷ cs) - 1) = omega arith in
    ends_well (c ∷ cs) (inr (ap (slice_index (b ∷ c ∷ cs)) (sym place) ∙ h))

behind_first : (b : ℕ) (bs : List ℕ) → EndsWell (b ∷ bs) → EndsWell bs
behind_first b [] h = tt
behind_first b (c ∷ cs) h = h

last_is : (bs : List ℕ) → slice_index (bs ++ 10 ∷ []) (length (bs ++ 10 ∷ []) - 1) ≡ 10
last_is [] = refl
last_is (b ∷ bs) =
    let place : length (b ∷ (bs ++ 10 ∷ [])) - 1 ≡ suc (length (bs ++ 10 ∷ []) - 1) = omega (arith, length-append bs (10 ∷ [])) in
    ap (slice_index (b ∷ (bs ++ 10 ∷ []))) place ∙ last_is bs

-- a line that is no single point
no_and : (t : Bool) → (t && false) ≡ false
no_and true = refl
no_and false = refl

line_begins : (line : List ℕ) → AllByRecursion (λ b. b ≢ 10) line → line ≢ codes "." → begins_with_dot_line (line ++ 10 ∷ []) ≡ false
line_begins [] one other = refl
line_begins (b ∷ []) one other = rw (ne_eqb b 46 (λ e. other (ap (λ (n : ℕ). n ∷ []) e))) refl
line_begins (b ∷ c ∷ cs) one other = rw (ne_eqb c 10 one.1.0) (no_and (eqb b 46))

line_later : (line : List ℕ) → AllByRecursion (λ b. b ≢ 10) line → has_later_dot_line (line ++ 10 ∷ []) ≡ false
line_later [] one = refl
line_later (b ∷ bs) one = rw (ne_eqb b 10 one.0, line_later bs one.1) refl

-- what stands behind whole lines
begins_joined : (bs tail : List ℕ) → EndsWell bs → begins_with_dot_line tail ≡ false → begins_with_dot_line bs ≡ false → begins_with_dot_line (bs ++ tail) ≡ false
begins_joined [] tail h k e = k
begins_joined (b ∷ []) [] h k e = refl
begins_joined (b ∷ []) (c ∷ cs) h k e = subst (λ (n : ℕ). (eqb n 46 && eqb c 10) ≡ false) (sym h) refl
begins_joined (b ∷ c ∷ cs) tail h k e = e

feed_then : (t a b : Bool) → (t && a) ≡ false → (a ≡ false → b ≡ false) → (t && b) ≡ false
feed_then true a b e f = f e
feed_then false a b e f = refl

later_joined : (bs tail : List ℕ) → EndsWell bs → begins_with_dot_line tail ≡ false → has_later_dot_line tail ≡ false → has_later_dot_line bs ≡ false → has_later_dot_line (bs ++ tail) ≡ false
later_joined [] tail h k l e = l
later_joined (b ∷ bs) tail h k l e =
    let parts = or_parts (eqb b 10 && begins_with_dot_line bs) (has_later_dot_line bs) e in
    let first = feed_then (eqb b 10) (begins_with_dot_line bs) (begins_with_dot_line (bs ++ tail)) parts.0 (begins_joined bs tail (behind_first b bs h) k) in
    rw (first, later_joined bs tail (behind_first b bs h) k l parts.1) refl

-- the data with one more line
pub data_line : (bytes line : List ℕ) → IsPictureData bytes → IsCutLine line → IsUtf8 line → line ≢ codes "." → IsPictureData (bytes ++ ended line)
data_line bytes line h k u other =
    let well = ends_well bytes h.last in
    let begins = line_begins line k.one other in
    let feed = IsUtf8-from_ascii (10 ∷ []) (IsAscii-cons 10 [] (omega arith) (λ i. omega arith)) in
    record {
      text = is_utf8-from_IsUtf8 _ (IsUtf8-append bytes (line ++ 10 ∷ []) (IsUtf8-from_is_utf8 bytes h.text) (IsUtf8-append line (10 ∷ []) u feed));
      last = inr (subst (λ (bs : List ℕ). slice_index bs (length bs - 1) ≡ 10) (append_assoc bytes line (10 ∷ [])) (last_is (bytes ++ line)));
      first_line = begins_joined bytes (line ++ 10 ∷ []) well begins h.first_line;
      later_lines = later_joined bytes (line ++ 10 ∷ []) well begins (line_later line k.one) h.later_lines;
    }

pub no_data : IsPictureData []
no_data = record { text = is_utf8-from_IsUtf8 [] IsUtf8-nil; last = inl refl; first_line = refl; later_lines = refl }
