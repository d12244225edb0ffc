-- The lines of a content.
use Rattle.std.proofs.Common.{◌≡◌, ◌⊎◌, inl, inr, ℕ, suc, ◌+◌, ◌-◌, Bool, true, false, cond, List, [], ◌∷◌, ◌++◌, length, Option, Some, None, codes, refl, sym, ap, subst, ◌∙◌, append_assoc, arith}
use Rattle.std.specs.Prelude.{slice_index}
use Rattle.std.specs.List.{flat_map, slice_split, onto_first, join_with_byte}
use Rattle.std.proofs.lemmas.Bool.{eqb-true}
use Rattle.std.proofs.lemmas.Grind.{flat_map-append}
use Rattle.std.proofs.lemmas.List.{append-nil}
use Rattle.std.proofs.lemmas.List.Splits.{length-slice_split, join_with_byte-slice_split}
use Rattle.geda_defs.specs.Lines.{ended, is_line_feed}
use Rattle.geda_model.specs.Ranges.{line_feeds}
use Rattle.geda_model.specs.Shapes.{IsEmbeddedData}
use Rattle.geda_text.specs.Lines.{without_empty_end}
use Rattle.geda_grammar.specs.Canonical.{picture_lines}
use Rattle.geda_write.specs.steps.Texts.{data_text}

-- they are one more than its line feeds
pub length_lines : (content : List ℕ) → length (slice_split is_line_feed content) ≡ line_feeds content + 1
length_lines content = length-slice_split is_line_feed content

-- each of them ended they are the content, ended
ended_joined : (line : List ℕ) (lines : List (List ℕ)) → flat_map ended (line ∷ lines) ≡ ended (join_with_byte 10 (line ∷ lines))
ended_joined line [] = append-nil (ended line)
ended_joined line (next ∷ lines) =
    ap (λ (bs : List ℕ). ended line ++ bs) (ended_joined next lines)
    ∙ append_assoc line (10 ∷ []) (ended (join_with_byte 10 (next ∷ lines)))
    ∙ sym (append_assoc line (10 ∷ join_with_byte 10 (next ∷ lines)) (10 ∷ []))

pub lines_ended : (content : List ℕ) → flat_map ended (slice_split is_line_feed content) ≡ ended content
lines_ended content = go (slice_split is_line_feed content) refl
  where
    go : (lines : List (List ℕ)) → slice_split is_line_feed content ≡ lines → flat_map ended lines ≡ ended content
    go [] e = absurd (let n = ap length (sym e) ∙ length_lines content in omega (arith, n))
    go (line ∷ lines) e = ended_joined line lines ∙ ap (λ (ls : List (List ℕ)). ended (join_with_byte 10 ls)) (sym e) ∙ ap ended (join_with_byte-slice_split 10 content)

-- the pieces of bytes that end in a line feed: two at least, and all but the last are the bytes
abbrev Ends : List (List ℕ) → List ℕ → Type 0
Ends (first ∷ second ∷ others) bytes = flat_map ended (first ∷ without_empty_end (second ∷ others)) ≡ bytes
Ends lines bytes = ⊥

ends : (b : ℕ) (bs : List ℕ) → slice_index (b ∷ bs) (length (b ∷ bs) - 1) ≡ 10 → Ends (slice_split is_line_feed (b ∷ bs)) (b ∷ bs)
ends b [] h = subst (λ (n : ℕ). Ends (slice_split is_line_feed (n ∷ [])) (n ∷ [])) (sym h) refl
ends b (c ∷ cs) h =
    let place : length (b ∷ c ∷ cs) - 1 ≡ suc (length (c ∷ cs) - 1) = omega arith in
    go (is_line_feed b) refl (slice_split is_line_feed (c ∷ cs)) (ends c cs (ap (slice_index (b ∷ c ∷ cs)) (sym place) ∙ h))
  where
    go : (t : Bool) → is_line_feed b ≡ t → (lines : List (List ℕ)) → Ends lines (c ∷ cs) → Ends (cond t ([] ∷ lines) (onto_first b lines)) (b ∷ c ∷ cs)
    go true e (first ∷ second ∷ others) k = ap (λ (bs : List ℕ). 10 ∷ bs) k ∙ ap (λ (n : ℕ). n ∷ c ∷ cs) (sym (eqb-true b 10 e))
    go false e (first ∷ second ∷ others) k = ap (λ (bs : List ℕ). b ∷ bs) k
    go t e lines k = absurd k

-- the data of a picture are its lines, each ended
data_ended : (bytes : List ℕ) → (length bytes ≡ 0) ⊎ (slice_index bytes (length bytes - 1) ≡ 10) → flat_map ended (without_empty_end (slice_split is_line_feed bytes)) ≡ bytes
data_ended [] h = refl
data_ended (b ∷ bs) (inl h) = absurd (omega (arith, h))
data_ended (b ∷ bs) (inr h) = go (slice_split is_line_feed (b ∷ bs)) (ends b bs h)
  where
    go : (lines : List (List ℕ)) → Ends lines (b ∷ bs) → flat_map ended (without_empty_end lines) ≡ b ∷ bs
    go (first ∷ second ∷ others) k = k
    go lines k = absurd k

-- what follows the line of a picture
pub picture_ended : (file : List ℕ) (embedded : Option (List ℕ)) → IsEmbeddedData embedded → flat_map ended (picture_lines file embedded) ≡ ended file ++ data_text embedded
picture_ended file None h = refl
picture_ended file (Some bytes) h =
    let lines = without_empty_end (slice_split is_line_feed bytes) in
    ap (λ (bs : List ℕ). ended file ++ bs) (flat_map-append ended lines (codes "." ∷ []) ∙ ap (λ (bs : List ℕ). bs ++ ended (codes ".")) (data_ended bytes h.last))
