-- The lines of a picture's data.
use Rattle.std.proofs.Common.{◌≡◌, ℕ, suc, ◌-◌, Bool, true, false, List, [], ◌∷◌, ◌++◌, length, refl, sym, ap, subst, ◌∙◌, arith, codes, inl, inr, ◌⊎◌}
use Rattle.std.specs.Prelude.{◌≢◌, ◌&&◌, ◌==◌, slice_index}
use Rattle.std.specs.List.{slice_split, onto_first, flat_map, AllByRecursion}
use Rattle.std.proofs.lemmas.Bool.{eqb-true, or_parts}
use Rattle.geda_defs.specs.Lines.{ended, is_line_feed}
use Rattle.geda_model.specs.Ranges.{begins_with_dot_line, has_later_dot_line, IsPictureData}
use Rattle.geda_text.specs.Lines.{without_empty_end}

-- bytes that end in LF
abbrev EndsWell : List ℕ → Type 0
EndsWell [] = ⊥
EndsWell (b ∷ []) = b ≡ 10
EndsWell (b ∷ c ∷ cs) = EndsWell (c ∷ cs)

ends_well : (b : ℕ) (bs : List ℕ) → slice_index (b ∷ bs) (length (b ∷ bs) - 1) ≡ 10 → EndsWell (b ∷ bs)
ends_well b [] h = h
ends_well b (c ∷ cs) h =
    let place : length (b ∷ c ∷ cs) - 1 ≡ suc (length (c ∷ cs) - 1) = omega arith in
    ends_well c cs (ap (slice_index (b ∷ c ∷ cs)) (sym place) ∙ h)

-- two pieces at least, and the lines are the bytes
record Cut (bs : List ℕ) : Type 0 where
  first : List ℕ
  second : List ℕ
  others : List (List ℕ)
  pieces : slice_split is_line_feed bs ≡ first ∷ second ∷ others
  whole : flat_map ended (first ∷ without_empty_end (second ∷ others)) ≡ bs

cut_of : (b : ℕ) (bs : List ℕ) → EndsWell (b ∷ bs) → Cut (b ∷ bs)
cut_of b [] h = subst (λ (n : ℕ). Cut (n ∷ [])) (sym h) (record { first = []; second = []; others = []; pieces = refl; whole = refl })
cut_of b (c ∷ cs) h = go (is_line_feed b) refl (cut_of c cs h)
  where
    go : (t : Bool) → is_line_feed b ≡ t → Cut (c ∷ cs) → Cut (b ∷ c ∷ cs)
    go true e k =
        let feed = eqb-true b 10 e in
        record {
          first = [];
          second = k.first;
          others = k.second ∷ k.others;
          pieces = rw e (ap (λ (ps : List (List ℕ)). [] ∷ ps) k.pieces);
          whole = ap (λ (bs : List ℕ). 10 ∷ bs) k.whole ∙ ap (λ (n : ℕ). n ∷ c ∷ cs) (sym feed);
        }
    go false e k = record {
      first = b ∷ k.first;
      second = k.second;
      others = k.others;
      pieces = rw e (ap (onto_first b) k.pieces);
      whole = ap (λ (bs : List ℕ). b ∷ bs) k.whole;
    }

-- the lines of data that ends in LF are the data
pub data_whole : (bytes : List ℕ) → (length bytes ≡ 0) ⊎ (slice_index bytes (length bytes - 1) ≡ 10) → flat_map ended (without_empty_end (slice_split is_line_feed bytes)) ≡ bytes
data_whole [] h = refl
data_whole (b ∷ bs) (inl h) = absurd (omega (arith, h))
data_whole (b ∷ bs) (inr h) =
    let k = cut_of b bs (ends_well b bs h) in
    ap (λ (ps : List (List ℕ)). flat_map ended (without_empty_end ps)) k.pieces ∙ k.whole

-- what follows a line
later : (line rest : List ℕ) → has_later_dot_line ((line ++ 10 ∷ []) ++ rest) ≡ false → (begins_with_dot_line rest ≡ false) × (has_later_dot_line rest ≡ false)
later [] rest h = or_parts (begins_with_dot_line rest) (has_later_dot_line rest) h
later (b ∷ line) rest h = later line rest (or_parts ((b == 10) && begins_with_dot_line ((line ++ 10 ∷ []) ++ rest)) (has_later_dot_line ((line ++ 10 ∷ []) ++ rest)) h).1

-- no line is a point
no_points : (lines : List (List ℕ)) → begins_with_dot_line (flat_map ended lines) ≡ false → has_later_dot_line (flat_map ended lines) ≡ false → AllByRecursion (λ l. l ≢ codes ".") lines
no_points [] f h = tt
no_points (line ∷ lines) f h =
    let more = later line (flat_map ended lines) h in
    ((λ e. absurd (let g : true ≡ false = ap (λ (l : List ℕ). begins_with_dot_line (ended l ++ flat_map ended lines)) (sym e) ∙ f in cc)), no_points lines more.0 more.1)

pub data_no_points : (bytes : List ℕ) → IsPictureData bytes → AllByRecursion (λ l. l ≢ codes ".") (without_empty_end (slice_split is_line_feed bytes))
data_no_points bytes h =
    let same = data_whole bytes h.last in
    no_points (without_empty_end (slice_split is_line_feed bytes)) (ap begins_with_dot_line same ∙ h.first_line) (ap has_later_dot_line same ∙ h.later_lines)

-- what holds of all pieces holds of the lines
pub all_kept : (P : List ℕ → Type 0) (ps : List (List ℕ)) → AllByRecursion P ps → AllByRecursion P (without_empty_end ps)
all_kept P [] h = tt
all_kept P ([] ∷ []) h = tt
all_kept P ((b ∷ bs) ∷ []) h = h
all_kept P (p ∷ q ∷ ps) h = (h.0, all_kept P (q ∷ ps) h.1)
