-- The lines of a content: UTF-8, without LF, and without CR at the end.
use Rattle.std.proofs.Common.{◌≡◌, ℕ, ◌+◌, ◌<◌, Bool, true, false, cond, eqb, List, [], ◌∷◌, ◌++◌, length, refl, sym, ap, subst, ◌∙◌, arith}
use Rattle.std.specs.Prelude.{◌&&◌, ◌||◌, ◌==◌}
use Rattle.std.specs.List.{slice_split, onto_first, join_with_byte, AllByRecursion}
use Rattle.std.specs.Str.{is_utf8, IsUtf8}
use Rattle.std.proofs.Math.Seq.{take-append_seam, drop-append-add, get_or-append_seam}
use Rattle.std.proofs.lemmas.List.{length-append}
use Rattle.std.proofs.lemmas.List.Splits.{join_with_byte-slice_split}
use Rattle.std.proofs.lemmas.Bool.Decides.{nat_tests}
use Rattle.std.proofs.lemmas.Str.{IsUtf8-from_is_utf8, is_utf8-from_IsUtf8, IsUtf8-take, IsUtf8-drop, IsCharBoundary-before_ascii, IsCharBoundary-after_ascii}
use Rattle.geda_defs.specs.Lines.{is_line_feed}
use Rattle.geda_model.specs.Ranges.{is_after_line, has_cr_end}
use Rattle.geda_text.specs.Lines.{unless_last_cr, IsCutLine}
use Rattle.geda_grammar.proofs.FollowLaws.{AreUtf8}
use Rattle.geda_grammar.proofs.Writing.{some_part}

-- what stands before and behind a line feed of a UTF-8 text is UTF-8
utf8_before : (a b : List ℕ) → is_utf8 (a ++ 10 ∷ b) ≡ true → is_utf8 a ≡ true
utf8_before a b h =
    let bytes = IsUtf8-from_is_utf8 (a ++ 10 ∷ b) h in
    let feed = get_or-append_seam a 10 b 0 in
    let within : length a < length (a ++ 10 ∷ b) = omega (arith, length-append a (10 ∷ b)) in
    let border = IsCharBoundary-before_ascii (a ++ 10 ∷ b) (length a) within (omega arith) in
    is_utf8-from_IsUtf8 a (subst IsUtf8 (take-append_seam a (10 ∷ b)) (IsUtf8-take (a ++ 10 ∷ b) (length a) bytes border))

utf8_after : (a b : List ℕ) → is_utf8 (a ++ 10 ∷ b) ≡ true → is_utf8 b ≡ true
utf8_after a b h =
    let bytes = IsUtf8-from_is_utf8 (a ++ 10 ∷ b) h in
    let feed = get_or-append_seam a 10 b 0 in
    let within : length a < length (a ++ 10 ∷ b) = omega (arith, length-append a (10 ∷ b)) in
    let border = IsCharBoundary-after_ascii (a ++ 10 ∷ b) (length a) bytes within (omega arith) in
    is_utf8-from_IsUtf8 b (subst IsUtf8 (drop-append-add a (10 ∷ b) 1) (IsUtf8-drop (a ++ 10 ∷ b) (length a + 1) bytes border))

joined_utf8 : (p : List ℕ) (ps : List (List ℕ)) → is_utf8 (join_with_byte 10 (p ∷ ps)) ≡ true → AreUtf8 (p ∷ ps)
joined_utf8 p [] u = (u, tt)
joined_utf8 p (q ∷ qs) u = (utf8_before p (join_with_byte 10 (q ∷ qs)) u, joined_utf8 q qs (utf8_after p (join_with_byte 10 (q ∷ qs)) u))

pub pieces_utf8 : (content : List ℕ) → is_utf8 content ≡ true → AreUtf8 (slice_split is_line_feed content)
pieces_utf8 content u =
    let (p, ps, same) = some_part content in
    let joined : is_utf8 (join_with_byte 10 (p ∷ ps)) ≡ true = ap (λ (ls : List (List ℕ)). is_utf8 (join_with_byte 10 ls)) (sym same) ∙ ap is_utf8 (join_with_byte-slice_split 10 content) ∙ u in
    subst AreUtf8 (sym same) (joined_utf8 p ps joined)

-- an empty first piece stands before a line feed, or before nothing
first_empty : (bs : List ℕ) (ps : List (List ℕ)) → slice_split is_line_feed bs ≡ [] ∷ ps → is_after_line bs ≡ true
first_empty [] ps e = refl
first_empty (b ∷ bs) ps e = go (is_line_feed b) refl e (some_part bs)
  where
    go : (t : Bool) → is_line_feed b ≡ t → cond t ([] ∷ slice_split is_line_feed bs) (onto_first b (slice_split is_line_feed bs)) ≡ [] ∷ ps → (x : List ℕ) × (xs : List (List ℕ)) × (slice_split is_line_feed bs ≡ x ∷ xs) → is_line_feed b ≡ true
    go true f e more = f
    go false f e more = absurd (let g : (b ∷ more.0) ∷ more.1 ≡ [] ∷ ps = ap (onto_first b) (sym more.2) ∙ e in cc)

-- one more byte in front of the first piece
onto_cut : (b : ℕ) (bs : List ℕ) (p : List ℕ) (ps : List (List ℕ)) → slice_split is_line_feed bs ≡ p ∷ ps → is_line_feed b ≡ false → (((b == 13) && is_after_line bs) ≡ false) → AllByRecursion IsCutLine (p ∷ ps) → AllByRecursion IsCutLine ((b ∷ p) ∷ ps)
onto_cut b bs [] ps e f h l =
    let after = first_empty bs ps e in
    let other : eqb b 13 ≡ false = (let g = rw after at h in alone (eqb b 13) g) in
    (record { one = (grind (arith, nat_tests, f), tt); no_cr = rw other refl }, l.1)
  where
    alone : (c : Bool) → (c && true) ≡ false → c ≡ false
    alone true e = absurd cc
    alone false e = refl
onto_cut b bs (q ∷ qs) ps e f h l =
    (record { one = (grind (arith, nat_tests, f), l.0.one); no_cr = ap (unless_last_cr b) l.0.no_cr }, l.1)

-- the lines of a content without CR before LF
pub pieces_cut : (content : List ℕ) → has_cr_end content ≡ false → AllByRecursion IsCutLine (slice_split is_line_feed content)
pieces_cut [] h = (record { one = tt; no_cr = refl }, tt)
pieces_cut (b ∷ bs) h = go (is_line_feed b) refl (or_none ((b == 13) && is_after_line bs) (has_cr_end bs) h) (λ e. pieces_cut bs e)
  where
    or_none : (c d : Bool) → (c || d) ≡ false → (c ≡ false) × (d ≡ false)
    or_none true d e = absurd cc
    or_none false d e = (refl, e)

    go : (t : Bool) → is_line_feed b ≡ t → (((b == 13) && is_after_line bs) ≡ false) × (has_cr_end bs ≡ false) → (has_cr_end bs ≡ false → AllByRecursion IsCutLine (slice_split is_line_feed bs)) → AllByRecursion IsCutLine (cond t ([] ∷ slice_split is_line_feed bs) (onto_first b (slice_split is_line_feed bs)))
    go true f n later = (record { one = tt; no_cr = refl }, later n.1)
    go false f n later =
        let more = some_part bs in
        let lines = subst (AllByRecursion IsCutLine) more.2 (later n.1) in
        subst (λ (ls : List (List ℕ)). AllByRecursion IsCutLine (onto_first b ls)) (sym more.2) (onto_cut b bs more.0 more.1 more.2 f n.0 lines)
