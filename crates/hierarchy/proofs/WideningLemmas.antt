-- Ways of one step more are the ways so far, each with its children behind it if it is as long as that.
use Rattle.std.proofs.Common.{◌≡◌, ◌<◌, ◌+◌, ℕ, zero, suc, Bool, true, false, List, [], ◌∷◌, ◌++◌, length, map, refl, sym, ap, ◌∙◌, length-append, arith}
use Rattle.std.specs.Prelude.{All, ◌||◌, replicate, flat_map, filter, not, slice_index_or}
use Rattle.std.specs.List.{range_with_len}
use Rattle.std.proofs.lemmas.Bool.{eq-eqb, ne_eqb}
use Rattle.std.proofs.lemmas.List.{append-nil, get_or-replicate, length-replicate, map-append}
use Rattle.std.proofs.lemmas.List.Elements.{filter-append}
use Rattle.std.proofs.lemmas.List.Concat.{flat_map-append}
use Rattle.std.proofs.lemmas.List.Elements.{All-head, All-tail, All-weaker}
use Rattle.hierarchy.specs.declared.way.Step.{Step}
use Rattle.hierarchy.specs.SheetTable.{TableSheetData, roots}
use Rattle.hierarchy.specs.Ways.{WayData, extended, children, next_steps, with_descendants, way_at, ways_within}
use Rattle.hierarchy.specs.steps.Widening.{IsMarked, if_unmarked, children_at, widened, unmarked}
use Rattle.hierarchy.proofs.ListLemmas.{filter_range, range_more}

module _ (sheets : List TableSheetData) where
  children_here : (d : ℕ) (w : WayData) → length w.steps ≡ d → children_at sheets d w ≡ children sheets w
  children_here d w e = rw (eq-eqb (length w.steps) d e) refl

  children_elsewhere : (d : ℕ) (w : WayData) → (length w.steps ≡ d → ⊥) → children_at sheets d w ≡ []
  children_elsewhere d w ne = rw (ne_eqb (length w.steps) d ne) refl

  singles : (ws : List WayData) → flat_map (with_descendants sheets 0) ws ≡ ws
  singles [] = refl
  singles (w ∷ ws) = ap (λ (vs : List WayData). w ∷ vs) (singles ws)

  -- the same of the children of a way
  branches : (n m : ℕ) (w : WayData) → m ≡ length w.steps + 1 + n
      → ((v : WayData) → with_descendants sheets (suc n) v ≡ flat_map (widened sheets (length v.steps + n)) (with_descendants sheets n v))
      → (steps : List Step) → flat_map (with_descendants sheets (suc n)) (map (extended w) steps)
      ≡ flat_map (widened sheets m) (flat_map (with_descendants sheets n) (map (extended w) steps))
  branches n m w e each [] = refl
  branches n m w e each (s ∷ ss) =
      let v = extended w s in
      let rest = map (extended w) ss in
      let len : length v.steps + n ≡ m = let l = length-append w.steps (s ∷ []) in omega arith in
      let here : with_descendants sheets (suc n) v ≡ flat_map (widened sheets m) (with_descendants sheets n v) = each v ∙ ap (λ (d : ℕ). flat_map (widened sheets d) (with_descendants sheets n v)) len in
      ap (λ (vs : List WayData). vs ++ flat_map (with_descendants sheets (suc n)) rest) here
      ∙ ap (λ (vs : List WayData). flat_map (widened sheets m) (with_descendants sheets n v) ++ vs) (branches n m w e each ss)
      ∙ sym (flat_map-append (widened sheets m) (with_descendants sheets n v) (flat_map (with_descendants sheets n) rest))

  -- a way with children of one step more
  with_descendants_next : (n : ℕ) (w : WayData) → with_descendants sheets (suc n) w ≡ flat_map (widened sheets (length w.steps + n)) (with_descendants sheets n w)
  with_descendants_next zero w =
      ap (λ (vs : List WayData). w ∷ vs) (singles (children sheets w) ∙ sym (children_here (length w.steps + 0) w (omega arith)))
      ∙ sym (append-nil (w ∷ children_at sheets (length w.steps + 0) w))
  with_descendants_next (suc n) w =
      let m = length w.steps + suc n in
      ap (λ (vs : List WayData). w ∷ vs) (branches n m w (omega arith) (with_descendants_next n) (next_steps sheets w))
      ∙ sym (ap (λ (vs : List WayData). w ∷ (vs ++ flat_map (widened sheets m) (flat_map (with_descendants sheets n) (children sheets w)))) (children_elsewhere m w (λ e. absurd (omega arith))))

  from_roots : (n : ℕ) (places : List ℕ) → flat_map (with_descendants sheets (suc n)) (map way_at places)
      ≡ flat_map (widened sheets n) (flat_map (with_descendants sheets n) (map way_at places))
  from_roots n [] = refl
  from_roots n (p ∷ ps) =
      let len : 0 + n ≡ n = omega arith in
      let here : with_descendants sheets (suc n) (way_at p) ≡ flat_map (widened sheets n) (with_descendants sheets n (way_at p)) = with_descendants_next n (way_at p) ∙ ap (λ (d : ℕ). flat_map (widened sheets d) (with_descendants sheets n (way_at p))) len in
      ap (λ (vs : List WayData). vs ++ flat_map (with_descendants sheets (suc n)) (map way_at ps)) here
      ∙ ap (λ (vs : List WayData). flat_map (widened sheets n) (with_descendants sheets n (way_at p)) ++ vs) (from_roots n ps)
      ∙ sym (flat_map-append (widened sheets n) (with_descendants sheets n (way_at p)) (flat_map (with_descendants sheets n) (map way_at ps)))

  -- ways of one step more
  pub ways_next : (n : ℕ) → ways_within sheets (suc n) ≡ flat_map (widened sheets n) (ways_within sheets n)
  ways_next n = from_roots n (roots sheets)

  pub ways_none : ways_within sheets 0 ≡ map way_at (roots sheets)
  ways_none = singles (map way_at (roots sheets))

  -- where no way is so long, none becomes longer
  unwidened : (d : ℕ) (ws : List WayData) → All (λ w. length w.steps < d) ws → flat_map (widened sheets d) ws ≡ ws
  unwidened d [] short = refl
  unwidened d (w ∷ ws) short =
      let here = All-head (λ w. length w.steps < d) w ws short in
      rw (children_elsewhere d w (λ e. absurd (omega arith)), unwidened d ws (All-tail (λ w. length w.steps < d) w ws short)) refl

  pub ways_stay : (n : ℕ) → All (λ w. length w.steps < n) (ways_within sheets n) → (k : ℕ) → ways_within sheets (k + n) ≡ ways_within sheets n
  ways_stay n short zero = let e : 0 + n ≡ n = omega arith in ap (ways_within sheets) e
  ways_stay n short (suc k) =
      let same = ways_stay n short k in
      let e : suc k + n ≡ suc (k + n) = omega arith in
      let short_still : All (λ w. length w.steps < k + n) (ways_within sheets n) = All-weaker (λ w. length w.steps < n) (λ w. length w.steps < k + n) (λ w lt. omega arith) (ways_within sheets n) short in
      ap (ways_within sheets) e ∙ ways_next (k + n) ∙ ap (flat_map (widened sheets (k + n))) same ∙ unwidened (k + n) (ways_within sheets n) short_still

-- the places without a mark are those that fail the test of the marks
pub unmarked_is : (marks : List Bool) (n : ℕ) (test : ℕ → Bool) → length marks ≡ n → ((place : ℕ) → place < n → slice_index_or marks place false ≡ test place)
    → unmarked marks ≡ filter (λ place. not (test place)) (range_with_len 0 n)
unmarked_is marks n test len same =
    ap (λ (k : ℕ). filter (λ place. not (slice_index_or marks place false)) (range_with_len 0 k)) len
    ∙ filter_range (λ place. not (slice_index_or marks place false)) (λ place. not (test place)) 0 n (λ k low high. ap not (same k (omega arith)))

-- marks that were made where there were none
pub marks_are : (old new : List Bool) (n : ℕ) (test : ℕ → Bool) → old ≡ replicate n false → IsMarked old new test → unmarked new ≡ filter (λ place. not (test place)) (range_with_len 0 n)
marks_are old new n test none marked =
    let len : length old ≡ n = ap length none ∙ length-replicate n false in
    unmarked_is new n test (omega (arith, marked.0, len)) (λ place h. marked.1 place (omega (arith, len))
    ∙ ap (λ (b : Bool). b || test place) (ap (λ (marks : List Bool). slice_index_or marks place false) none ∙ get_or-replicate n place false false h))

-- what one more place gives
pub unmarked_more : {X : Type 0} (f : ℕ → X) (marks : List Bool) (n : ℕ)
    → map f (filter (λ place. not (slice_index_or marks place false)) (range_with_len 0 n)) ++ if_unmarked f (slice_index_or marks n false) n
    ≡ map f (filter (λ place. not (slice_index_or marks place false)) (range_with_len 0 (n + 1)))
unmarked_more {X} f marks n =
    let test : ℕ → Bool = λ place. not (slice_index_or marks place false) in
    let front = filter test (range_with_len 0 n) in
    let more : range_with_len 0 (n + 1) ≡ range_with_len 0 n ++ n ∷ [] = (let e : n + 1 ≡ suc n = omega arith in ap (range_with_len 0) e) ∙ range_more 0 n ∙ (let e : 0 + n ≡ n = omega arith in ap (λ (k : ℕ). range_with_len 0 n ++ k ∷ []) e) in
    sym (ap (λ (places : List ℕ). map f (filter test places)) more
    ∙ ap (map f) (filter-append test (range_with_len 0 n) (n ∷ []))
    ∙ map-append f front (filter test (n ∷ []))
    ∙ ap (λ (xs : List X). map f front ++ xs) (last (slice_index_or marks n false) refl))
  where
    last : (b : Bool) → slice_index_or marks n false ≡ b → map f (filter (λ place. not (slice_index_or marks place false)) (n ∷ [])) ≡ if_unmarked f (slice_index_or marks n false) n
    last true e = rw e refl
    last false e = rw e refl
