-- Keys of conductors with their places: with one more conductor, of one place, and of conductors
-- that are made of others.
use Rattle.std.proofs.Common.{◌≡◌, ℕ, suc, ◌+◌, ◌<◌, ◌≤◌, ◌==◌, Bool, true, false, cond, List, [], ◌∷◌, ◌++◌, length, map, refl, sym, ap, ap₂, ◌∙◌, arith}
use Rattle.std.proofs.lemmas.Bool.{eq-eqb, ne_eqb}
use Rattle.std.proofs.lemmas.List.{append-nil, append_assoc, map-append}
use Rattle.flat_rows.specs.Keyed.{Keyed, keyed_at, keyed_from}
use Rattle.flat_rows.specs.steps.Lists.{keys_at, keys_behind}

module _ {C K : Type 0} (keys : C → List K) where
  -- with one more conductor
  pub keyed_push : (place : ℕ) (cs : List C) (c : C) → keyed_from keys place (cs ++ c ∷ []) ≡ keyed_from keys place cs ++ keyed_at (place + length cs) (keys c)
  keyed_push place [] c = append-nil (keyed_at place (keys c)) ∙ ap (λ (p : ℕ). keyed_at p (keys c)) (let e : place ≡ place + 0 = omega arith in e)
  keyed_push place (d ∷ cs) c =
      ap (λ (ks : List (Keyed K)). keyed_at place (keys d) ++ ks) (keyed_push (place + 1) cs c
      ∙ ap (λ (p : ℕ). keyed_from keys (place + 1) cs ++ keyed_at p (keys c)) (let e : (place + 1) + length cs ≡ place + suc (length cs) = omega arith in e))
      ∙ sym (append_assoc (keyed_at place (keys d)) (keyed_from keys (place + 1) cs) (keyed_at (place + suc (length cs)) (keys c)))

  -- the list behind which its keys are put
  pub keyed_more : (old new : List (Keyed K)) (cs : List C) (c : C) (place : ℕ) → place ≡ length cs → old ≡ keyed_from keys 0 cs
      → new ≡ old ++ keyed_at place (keys c) → new ≡ keyed_from keys 0 (cs ++ c ∷ [])
  keyed_more old new cs c place at is more =
      more
      ∙ ap₂ (λ (ks : List (Keyed K)) (p : ℕ). ks ++ keyed_at p (keys c)) is (let e : place ≡ 0 + length cs = omega (arith, at) in e)
      ∙ sym (keyed_push 0 cs c)

module _ {K : Type 0} where
  keys_append : (place : ℕ) (xs ys : List (Keyed K)) → keys_at place (xs ++ ys) ≡ keys_at place xs ++ keys_at place ys
  keys_append place [] ys = refl
  keys_append place (x ∷ xs) ys = by (x.1 == place) (keys_append place xs ys)
    where
      by : (b : Bool) → keys_at place (xs ++ ys) ≡ keys_at place xs ++ keys_at place ys
          → cond b (x.0 ∷ keys_at place (xs ++ ys)) (keys_at place (xs ++ ys)) ≡ cond b (x.0 ∷ keys_at place xs) (keys_at place xs) ++ keys_at place ys
      by true h = ap (λ (ks : List K). x.0 ∷ ks) h
      by false h = h

  keys_own : (place : ℕ) (ks : List K) → keys_at place (keyed_at place ks) ≡ ks
  keys_own place [] = refl
  keys_own place (k ∷ ks) = rw (eq-eqb place place refl) (ap (λ (rest : List K). k ∷ rest) (keys_own place ks))

  keys_other : (place other : ℕ) → (other ≡ place → ⊥) → (ks : List K) → keys_at place (keyed_at other ks) ≡ []
  keys_other place other ne [] = refl
  keys_other place other ne (k ∷ ks) = rw (ne_eqb other place ne) (keys_other place other ne ks)

module _ {C K : Type 0} (keys : C → List K) where
  keys_later : (place from : ℕ) → place < from → (cs : List C) → keys_at place (keyed_from keys from cs) ≡ []
  keys_later place from lt [] = refl
  keys_later place from lt (c ∷ cs) =
      keys_append place (keyed_at from (keys c)) (keyed_from keys (from + 1) cs)
      ∙ ap₂ (λ (xs ys : List K). xs ++ ys) (keys_other place from (λ e. omega (arith, lt, e)) (keys c)) (keys_later place (from + 1) (omega (arith, lt)) cs)

  -- a list tells of each place from this one on what the conductors from there on have
  abbrev pub Tells : List (Keyed K) → ℕ → List C → Type 0
  Tells list place cs = (p : ℕ) → place ≤ p → keys_at p list ≡ keys_at p (keyed_from keys place cs)

  pub tells_all : (list : List (Keyed K)) (cs : List C) → list ≡ keyed_from keys 0 cs → Tells list 0 cs
  tells_all list cs is p le = ap (keys_at p) is

  pub tells_first : (list : List (Keyed K)) (place : ℕ) (c : C) (cs : List C) → Tells list place (c ∷ cs) → keys_at place list ≡ keys c
  tells_first list place c cs tells =
      tells place (omega arith)
      ∙ keys_append place (keyed_at place (keys c)) (keyed_from keys (place + 1) cs)
      ∙ ap₂ (λ (xs ys : List K). xs ++ ys) (keys_own place (keys c)) (keys_later place (place + 1) (omega arith) cs)
      ∙ append-nil (keys c)

  pub tells_rest : (list : List (Keyed K)) (place : ℕ) (c : C) (cs : List C) → Tells list place (c ∷ cs) → Tells list (place + 1) cs
  tells_rest list place c cs tells p le =
      tells p (omega (arith, le))
      ∙ keys_append p (keyed_at place (keys c)) (keyed_from keys (place + 1) cs)
      ∙ ap (λ (xs : List K). xs ++ keys_at p (keyed_from keys (place + 1) cs)) (keys_other p place (λ e. omega (arith, le, e)) (keys c))

-- of conductors that are made of others
pub keyed_map : {B C K : Type 0} (f : B → C) (keys : C → List K) (place : ℕ) (bs : List B) → keyed_from keys place (map f bs) ≡ keyed_from (λ b. keys (f b)) place bs
keyed_map f keys place [] = refl
keyed_map {B} {C} {K} f keys place (b ∷ bs) = ap (λ (ks : List (Keyed K)). keyed_at place (keys (f b)) ++ ks) (keyed_map f keys (place + 1) bs)

-- ---- keys behind those of other conductors

behind_at : {K : Type 0} (first place : ℕ) (ks : List K) → keys_behind first (keyed_at place ks) ≡ keyed_at (first + place) ks
behind_at first place [] = refl
behind_at {K} first place (k ∷ ks) = ap (λ (rest : List (Keyed K)). (k, first + place) ∷ rest) (behind_at first place ks)

module _ {C K : Type 0} (keys : C → List K) where
  keyed_append : (place : ℕ) (cs ds : List C) → keyed_from keys place (cs ++ ds) ≡ keyed_from keys place cs ++ keyed_from keys (place + length cs) ds
  keyed_append place [] ds = ap (λ (p : ℕ). keyed_from keys p ds) (let e : place ≡ place + 0 = omega arith in e)
  keyed_append place (c ∷ cs) ds =
      ap (λ (ks : List (Keyed K)). keyed_at place (keys c) ++ ks) (keyed_append (place + 1) cs ds
      ∙ ap (λ (p : ℕ). keyed_from keys (place + 1) cs ++ keyed_from keys p ds) (let e : (place + 1) + length cs ≡ place + suc (length cs) = omega arith in e))
      ∙ sym (append_assoc (keyed_at place (keys c)) (keyed_from keys (place + 1) cs) (keyed_from keys (place + suc (length cs)) ds))

  behind_from : (first place : ℕ) (ds : List C) → keys_behind first (keyed_from keys place ds) ≡ keyed_from keys (first + place) ds
  behind_from first place [] = refl
  behind_from first place (d ∷ ds) =
      map-append {B = Keyed K} (λ k. (k.0, first + k.1)) (keyed_at place (keys d)) (keyed_from keys (place + 1) ds)
      ∙ ap₂ (λ (xs ys : List (Keyed K)). xs ++ ys) (behind_at first place (keys d))
      (behind_from first (place + 1) ds ∙ ap (λ (p : ℕ). keyed_from keys p ds) (let e : first + (place + 1) ≡ (first + place) + 1 = omega arith in e))

  -- the list behind which those of more conductors are put
  pub keyed_behind : (old new more : List (Keyed K)) (cs ds : List C) (first : ℕ) → first ≡ length cs → old ≡ keyed_from keys 0 cs → more ≡ keyed_from keys 0 ds
      → new ≡ old ++ keys_behind first more → new ≡ keyed_from keys 0 (cs ++ ds)
  keyed_behind old new more cs ds first at is are put =
      put
      ∙ ap₂ (λ (xs ys : List (Keyed K)). xs ++ ys) is (ap (keys_behind first) are ∙ behind_from first 0 ds ∙ ap (λ (p : ℕ). keyed_from keys p ds) (let e : first + 0 ≡ 0 + length cs = omega (arith, at) in e))
      ∙ sym (keyed_append 0 cs ds)
