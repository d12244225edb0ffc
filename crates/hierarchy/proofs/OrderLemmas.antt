-- In the list of ways each follows the one before it.
use Rattle.std.proofs.Common.{◌≡◌, ℕ, zero, suc, List, [], ◌∷◌, ◌++◌, length, map, refl, sym, subst, inl, inr}
use Rattle.std.specs.Prelude.{All, flat_map}
use Rattle.std.proofs.lemmas.List.Elements.{All-head, All-tail}
use Rattle.hierarchy.specs.declared.way.Step.{Step}
use Rattle.hierarchy.specs.SheetTable.{TableSheetData, roots}
use Rattle.hierarchy.specs.Ways.{WayData, children, extended, next_steps, way_at, ways, with_descendants}
use Rattle.hierarchy.specs.steps.Parents.{AllFollow, AreInOrder, IsBelow}
use Rattle.hierarchy.proofs.OnceLemmas.{below_extended, below_itself, descendants_below}

-- the last of a way and those behind it
abbrev last_of : WayData → List WayData → WayData
last_of u [] = u
last_of u (v ∷ vs) = last_of v vs

last_holds : (P : WayData → Type 0) (u : WayData) (vs : List WayData) → All P (u ∷ vs) → P (last_of u vs)
last_holds P u [] all = All-head P u [] all
last_holds P u (v ∷ vs) all = last_holds P v vs (All-tail P u (v ∷ vs) all)

follow_append : (u : WayData) (vs ws : List WayData) → AllFollow u vs → AllFollow (last_of u vs) ws → AllFollow u (vs ++ ws)
follow_append u [] ws first second = second
follow_append u (v ∷ vs) ws first second = (first.0, follow_append v vs ws first.1 second)

module _ (sheets : List TableSheetData) where
  -- the ways behind a way, below it
  abbrev behind : ℕ → WayData → List WayData
  behind zero w = []
  behind (suc n) w = flat_map (with_descendants sheets n) (children sheets w)

  front : (n : ℕ) (w : WayData) → with_descendants sheets n w ≡ w ∷ behind n w
  front zero w = refl
  front (suc n) w = refl

  -- a block of ways behind a way that its first one follows
  block : (n : ℕ) → ((w : WayData) → AllFollow w (behind n w)) → (x : WayData) (rest : List WayData) → AllFollow (last_of x (behind n x)) rest → AllFollow x (behind n x ++ rest)
  block n inner x rest after = follow_append x (behind n x) rest (inner x) after

  last_below : (n : ℕ) (x : WayData) → IsBelow x (last_of x (behind n x))
  last_below n x = last_holds (IsBelow x) x (behind n x) (subst (All (IsBelow x)) (front n x) (descendants_below sheets n x))

  children_follow : (n : ℕ) → ((w : WayData) → AllFollow w (behind n w)) → (w : WayData) (ss : List Step) (u : WayData) → IsBelow w u → AllFollow u (flat_map (with_descendants sheets n) (map (extended w) ss))
  children_follow n inner w [] u below = tt
  children_follow n inner w (s ∷ ss) u below =
      let x = extended w s in
      let rest = flat_map (with_descendants sheets n) (map (extended w) ss) in
      let last = last_of x (behind n x) in
      subst (λ (vs : List WayData). AllFollow u (vs ++ rest)) (sym (front n x))
      (inr (w, s, below, refl), block n inner x rest (children_follow n inner w ss last (below_extended w s last (last_below n x))))

  all_follow : (n : ℕ) (w : WayData) → AllFollow w (behind n w)
  all_follow zero w = tt
  all_follow (suc n) w = children_follow n (all_follow n) w (next_steps sheets w) w (below_itself w)

  roots_follow : (n : ℕ) (places : List ℕ) (u : WayData) → AllFollow u (flat_map (with_descendants sheets n) (map way_at places))
  roots_follow n [] u = tt
  roots_follow n (p ∷ ps) u =
      let x = way_at p in
      let rest = flat_map (with_descendants sheets n) (map way_at ps) in
      subst (λ (vs : List WayData). AllFollow u (vs ++ rest)) (sym (front n x)) (inl refl, block n (all_follow n) x rest (roots_follow n ps (last_of x (behind n x))))

  in_order : (n : ℕ) (places : List ℕ) → AreInOrder (flat_map (with_descendants sheets n) (map way_at places))
  in_order n [] = tt
  in_order n (p ∷ ps) =
      let x = way_at p in
      let rest = flat_map (with_descendants sheets n) (map way_at ps) in
      subst (λ (vs : List WayData). AreInOrder (vs ++ rest)) (sym (front n x)) (refl, block n (all_follow n) x rest (roots_follow n ps (last_of x (behind n x))))

  pub ways_in_order : AreInOrder (ways sheets)
  ways_in_order = in_order (length sheets) (roots sheets)
