-- Lines that are added to a content.
use Rattle.std.proofs.Common.{◌≡◌, ◌≢◌, ℕ, ◌+◌, ◌<◌, ◌≤◌, Bool, true, false, cond, ◌||◌, ◌&&◌, List, [], ◌∷◌, ◌++◌, eqb, refl, arith}
use Rattle.std.specs.List.{AllByRecursion}
use Rattle.std.proofs.lemmas.Bool.{ne_eqb, or_parts}
use Rattle.std.proofs.lemmas.List.Sums.{sum_by-append}
use Rattle.std.specs.Str.{is_utf8, IsUtf8}
use Rattle.std.proofs.lemmas.Str.{IsUtf8-nil, IsUtf8-append, IsUtf8-from_ascii, IsUtf8-from_is_utf8, is_utf8-from_IsUtf8}
use Rattle.std.proofs.lemmas.Str.Ascii.{IsAscii-cons}
use Rattle.sheet_lines.specs.steps.Begun.{ContentData, IsBegun}
use Rattle.sheet_lines.specs.steps.Contents.{with_line}
use Rattle.geda_model.specs.Limits.{most_lines}
use Rattle.geda_model.specs.Ranges.{IsContent, has_cr_end, is_after_line, line_feeds}
use Rattle.geda_text.specs.Lines.{IsCutLine, without_crs, unless_last_cr}

-- what follows does not make a CR the end of a line
not_after : (a : Bool) (bs cs : List ℕ) → (a && is_after_line bs) ≡ false → (a && is_after_line (bs ++ cs)) ≡ false
not_after false bs cs e = refl
not_after true [] cs e = absurd cc
not_after true (b ∷ bs) cs e = e

-- no line of two contents behind each other ends in CR
no_cr_joined : (bs cs : List ℕ) → has_cr_end bs ≡ false → has_cr_end cs ≡ false → has_cr_end (bs ++ cs) ≡ false
no_cr_joined [] cs h k = k
no_cr_joined (b ∷ bs) cs h k =
    let parts = or_parts (eqb b 13 && is_after_line bs) (has_cr_end bs) h in
    rw (not_after (eqb b 13) bs cs parts.0, no_cr_joined bs cs parts.1 k) refl

-- a line of a file has no CR at its end
cr_free : (b : ℕ) (bs : List ℕ) → unless_last_cr b (without_crs bs) ≡ b ∷ bs → b ≢ 10 → AllByRecursion (λ b. b ≢ 10) bs → has_cr_end (b ∷ bs) ≡ false
cr_free b [] e one more = go (eqb b 13) refl e
  where
    go : (t : Bool) → eqb b 13 ≡ t → cond t [] (b ∷ []) ≡ b ∷ [] → ((eqb b 13 && true) || false) ≡ false
    go true k f = absurd cc
    go false k f = rw k refl
cr_free b (c ∷ cs) e one more =
    let same = inner b (without_crs (c ∷ cs)) c cs e in
    rw (ne_eqb c 10 more.0, cr_free c cs same more.0 more.1) (no_and (eqb b 13))
  where
    inner : (b : ℕ) (ws : List ℕ) (c : ℕ) (cs : List ℕ) → unless_last_cr b ws ≡ b ∷ c ∷ cs → ws ≡ c ∷ cs
    inner b [] c cs e = go (eqb b 13) e
      where
        go : (t : Bool) → cond t [] (b ∷ []) ≡ b ∷ c ∷ cs → [] ≡ c ∷ cs
        go true f = absurd cc
        go false f = absurd cc
    inner b (w ∷ ws) c cs e = cc

    no_and : (t : Bool) → ((t && false) || false) ≡ false
    no_and true = refl
    no_and false = refl

pub cut_has_no_cr : (line : List ℕ) → IsCutLine line → has_cr_end line ≡ false
cut_has_no_cr [] h = refl
cut_has_no_cr (b ∷ bs) h = cr_free b bs h.no_cr h.one.0 h.one.1

-- nor a line feed
no_feeds : (line : List ℕ) → AllByRecursion (λ b. b ≢ 10) line → line_feeds line ≡ 0
no_feeds [] h = refl
no_feeds (b ∷ bs) h = rw (ne_eqb b 10 h.0, no_feeds bs h.1) refl

-- a content with one more line
pub line_added : (c line : List ℕ) → has_cr_end c ≡ false → IsCutLine line → has_cr_end (c ++ line) ≡ false
line_added c line h k = no_cr_joined c line h (cut_has_no_cr line k)

pub feed_added : (c line : List ℕ) → has_cr_end c ≡ false → IsCutLine line → has_cr_end ((c ++ line) ++ 10 ∷ []) ≡ false
feed_added c line h k = no_cr_joined (c ++ line) (10 ∷ []) (line_added c line h k) refl

pub feeds_with_line : (c line : List ℕ) → IsCutLine line → line_feeds (c ++ line) ≡ line_feeds c
feeds_with_line c line k = rw (sum_by-append (λ b. cond (eqb b 10) 1 0) c line, no_feeds line k.one) (omega arith)

pub feeds_with_feed : (c line : List ℕ) → IsCutLine line → line_feeds ((c ++ line) ++ 10 ∷ []) ≡ line_feeds c + 1
feeds_with_feed c line k = rw (sum_by-append (λ b. cond (eqb b 10) 1 0) (c ++ line) (10 ∷ []), feeds_with_line c line k) (omega arith)

-- both are UTF-8, and so are they behind each other
utf8_joined : (c line : List ℕ) → is_utf8 c ≡ true → IsUtf8 line → is_utf8 (c ++ line) ≡ true
utf8_joined c line h k = is_utf8-from_IsUtf8 (c ++ line) (IsUtf8-append c line (IsUtf8-from_is_utf8 c h) k)

-- the last line makes a content of it
pub last_line : (c : ContentData) (line : List ℕ) → IsBegun c → IsCutLine line → IsUtf8 line → IsContent (c.content ++ line)
last_line c line h k u = record {
  text = utf8_joined c.content line h.text u;
  lines = omega (arith, feeds_with_line c.content line k, h.some, h.few);
  no_cr = line_added c.content line h.no_cr k;
}

-- so does a line alone
pub line_alone : (line : List ℕ) → IsCutLine line → IsUtf8 line → IsContent line
line_alone line k u = record {
  text = is_utf8-from_IsUtf8 line u;
  lines = omega (arith, no_feeds line k.one);
  no_cr = cut_has_no_cr line k;
}

-- with another line it is one as before
pub next_line : (c : ContentData) (line : List ℕ) → IsBegun c → IsCutLine line → IsUtf8 line → c.left ≢ 1 → IsBegun (with_line c line)
next_line c line h k u others = record {
  text = utf8_joined (c.content ++ line) (10 ∷ []) (utf8_joined c.content line h.text u) (IsUtf8-from_ascii (10 ∷ []) (IsAscii-cons 10 [] (omega arith) (λ i. omega arith)));
  no_cr = feed_added c.content line h.no_cr k;
  some = omega (arith, h.some, others);
  few = omega (arith, feeds_with_feed c.content line k, h.some, h.few);
}

-- no line is there yet
pub nothing_yet : (n : ℕ) → 0 < n → n ≤ most_lines → IsBegun (record { content = []; left = n })
nothing_yet n some few = record { text = is_utf8-from_IsUtf8 [] IsUtf8-nil; no_cr = refl; some = some; few = omega (arith, few) }

pub no_content : (bs : List ℕ) → bs ≡ [] → IsContent bs
no_content bs e = rw e (record { text = is_utf8-from_IsUtf8 [] IsUtf8-nil; lines = omega arith; no_cr = refl })
