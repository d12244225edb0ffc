-- What functions make of lists, and the first number of a range.
use Rattle.std.proofs.Common.{◌≡◌, ℕ, suc, ◌+◌, ◌-◌, ◌<◌, List, [], ◌∷◌, refl, arith}
use Rattle.std.specs.List.{flat_map, range_with_len}

-- two functions that agree, over a list
pub flat_map_same : {A B : Type 0} (f g : A → List B) → ((x : A) → f x ≡ g x) → (xs : List A) → flat_map f xs ≡ flat_map g xs
flat_map_same f g same [] = refl
flat_map_same f g same (x ∷ xs) = rw (same x, flat_map_same f g same xs) refl

-- the first number of a range
pub range_first : (i n : ℕ) → i < n → range_with_len (i + 1) (n - i) ≡ (i + 1) ∷ range_with_len (i + 1 + 1) (n - (i + 1))
range_first i n lt =
    let more : n - i ≡ suc (n - (i + 1)) = omega arith in
    rw more refl
