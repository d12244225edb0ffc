-- Lists: what a search and a filter find, and what stands at a place.
use Rattle.std.proofs.Common.{◌≡◌, ◌⊎◌, ◌<◌, ℕ, zero, suc, Bool, true, false, cond, List, [], ◌∷◌, Some, Contains, length, get_or, map, refl, sym, ap, ◌∙◌, subst, inl, inr, arith, true≢false}
use Rattle.std.specs.List.{filter, find, slice_get}
use Rattle.std.proofs.lemmas.List.Elements.{All-contains, All-contains_itself}
use Rattle.std.proofs.lemmas.Option.{get_or_from_slice_get, none-some, same_Some, slice_get-get_or, slice_get_within}
use Rattle.hierarchy.proofs.ListLemmas.{all_map}
use Rattle.pair_classes.proofs.ListLemmas.{head_is_in, in_cases, none_is_in, tail_is_in}

-- what is found is there, and passes
pub found : {X : Type 0} (test : X → Bool) (xs : List X) (y : X) → find test xs ≡ Some y → Contains xs y × (test y ≡ true)
found test [] y e = absurd (none-some y e)
found {X} test (x ∷ xs) y e = by (test x) refl e (found test xs y)
  where
    by : (b : Bool) → test x ≡ b → cond b (Some x) (find test xs) ≡ Some y → (find test xs ≡ Some y → Contains xs y × (test y ≡ true)) → Contains (x ∷ xs) y × (test y ≡ true)
    by true t e rest = let same = same_Some x y e in (subst (λ (z : X). Contains (x ∷ xs) z) same (head_is_in x xs), subst (λ (z : X). test z ≡ true) same t)
    by false t e rest = let r = rest e in (tail_is_in x xs y r.0, r.1)

-- where one that passes is there, one is found
pub is_found : {X : Type 0} (test : X → Bool) (xs : List X) (x : X) → Contains xs x → test x ≡ true → (y : X) × (find test xs ≡ Some y)
is_found test [] x c t = none_is_in x c
is_found {X} test (z ∷ zs) x c t = by (test z) refl (λ c. is_found test zs x c t)
  where
    by : (b : Bool) → test z ≡ b → (Contains zs x → (y : X) × (find test zs ≡ Some y)) → (y : X) × (cond b (Some z) (find test zs) ≡ Some y)
    by true e rest = (z, refl)
    by false e rest = elim (in_cases z zs x c) [ inl same ↦ absurd (true≢false (sym t ∙ ap test (sym same) ∙ e)) | inr later ↦ rest later ]

-- what passes stays in a filter
pub contains_filter : {X : Type 0} (test : X → Bool) (xs : List X) (x : X) → Contains xs x → test x ≡ true → Contains (filter test xs) x
contains_filter test [] x c t = none_is_in x c
contains_filter {X} test (y ∷ ys) x c t = by (test y) refl (λ c. contains_filter test ys x c t) (in_cases y ys x c)
  where
    by : (b : Bool) → test y ≡ b → (Contains ys x → Contains (filter test ys) x) → (y ≡ x) ⊎ Contains ys x → Contains (cond b (y ∷ filter test ys) (filter test ys)) x
    by true e rest (inl same) = subst (λ (z : X). Contains (y ∷ filter test ys) z) same (head_is_in y (filter test ys))
    by true e rest (inr later) = tail_is_in y (filter test ys) x (rest later)
    by false e rest (inl same) = absurd (true≢false (sym t ∙ ap test (sym same) ∙ e))
    by false e rest (inr later) = rest later

-- what images contain is the image of something
pub of_map : {X Y : Type 0} (f : X → Y) (xs : List X) (y : Y) → Contains (map f xs) y → (x : X) × Contains xs x × (f x ≡ y)
of_map {X} {Y} f xs y c =
    let Made : Y → Type 0 = λ y. (x : X) × Contains xs x × (f x ≡ y) in
    All-contains Made (map f xs) y (all_map Made f xs (λ k d h. (get_or xs k d, All-contains_itself xs k d h, refl))) c

-- what stands at a place
pub at_place : {X : Type 0} (xs : List X) (i : ℕ) → i < length xs → (x : X) × (slice_get xs i ≡ Some x)
at_place [] i h = absurd (omega arith)
at_place (x ∷ xs) zero h = (x, refl)
at_place (x ∷ xs) (suc i) h = at_place xs i (omega arith)

-- the place of what is there
pub place_in : {X : Type 0} (xs : List X) (x : X) → Contains xs x → (k : ℕ) × (slice_get xs k ≡ Some x)
place_in xs x (k, lt, is) = (k, slice_get-get_or xs k x lt ∙ ap Some is)

pub is_there : {X : Type 0} (xs : List X) (k : ℕ) (x : X) → slice_get xs k ≡ Some x → Contains xs x
is_there xs k x at = (k, slice_get_within xs k x at, get_or_from_slice_get xs k x x at)
