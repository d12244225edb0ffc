-- Two members of a list, not the same one (own).
use Rattle.std.specs.Prelude.{Bool, ◌&&◌, List, [], ◌∷◌, ◌++◌, map}
use Rattle.std.specs.List.{list_any}

-- each two members of a list, not the same one, in their order
abbrev pub pairs : {A : Type 0} → List A → List (A × A)
pairs [] = []
pairs (x ∷ xs) = map (λ y. (x, y)) xs ++ pairs xs

-- both pass a test
abbrev pub both : {A : Type 0} → (A → Bool) → A × A → Bool
both p two = p two.0 && p two.1

-- two members pass a test, not the same one
abbrev pub two_pass : {A : Type 0} → (A → Bool) → List A → Bool
two_pass p xs = list_any (both p) (pairs xs)
