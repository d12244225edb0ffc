-- Members with one space between them.
use Rattle.std.proofs.Common.{◌≡◌, ℕ, List, [], ◌∷◌, ◌++◌, map, sym, ap, ◌∙◌, append-nil}
use Rattle.std.specs.List.{flat_map}
use Rattle.std.proofs.lemmas.List.Concat.{flat_map-cons}
use Rattle.geda_defs.specs.Lines.{spaced}

-- the first, then each other behind a space
pub spaced_from_first : {A : Type 0} (f : A → List ℕ) (x : A) (xs : List A) → spaced (map f (x ∷ xs)) ≡ f x ++ flat_map (λ y. 32 ∷ f y) xs
spaced_from_first f x [] = sym (append-nil (f x))
spaced_from_first f x (y ∷ ys) = ap (λ (rest : List ℕ). f x ++ 32 ∷ rest) (spaced_from_first f y ys) ∙ ap (λ (rest : List ℕ). f x ++ rest) (sym (flat_map-cons (λ z. 32 ∷ f z) y ys))
