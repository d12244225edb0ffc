-- Counting up: what holds of the numbers of a range, one after the other.
use Rattle.std.proofs.Common.{◌≡◌, ◌∙◌, ◌&&◌, ◌+◌, ◌-◌, ◌<◌, ◌++◌, ◌∷◌, ℕ, suc, Bool, true, List, arith, append_assoc, sym, ap}
use Rattle.std.specs.List.{flat_map, list_all, range_with_len}

-- the numbers behind a place begin with the next one
range_next : (place count : ℕ) → place < count → range_with_len (place + 1) (count - place) ≡ (place + 1) ∷ range_with_len (place + 1 + 1) (count - (place + 1))
range_next place count lt =
    let more : count - place ≡ suc (count - (place + 1)) = omega (arith, lt) in
    ap (range_with_len (place + 1)) more

-- a test that the next one passes
pub all_next : (f : ℕ → Bool) (place count : ℕ) → place < count → f (place + 1) ≡ true
    → list_all f (range_with_len (place + 1) (count - place)) ≡ list_all f (range_with_len (place + 1 + 1) (count - (place + 1)))
all_next f place count lt h =
    ap (list_all f) (range_next place count lt)
    ∙ ap (λ (b : Bool). b && list_all f (range_with_len (place + 1 + 1) (count - (place + 1)))) h

-- the text of the next one
pub texts_next : (f : ℕ → List ℕ) (place count : ℕ) (out : List ℕ) → place < count
    → out ++ f (place + 1) ++ flat_map f (range_with_len (place + 1 + 1) (count - (place + 1))) ≡ out ++ flat_map f (range_with_len (place + 1) (count - place))
texts_next f place count out lt =
    append_assoc out (f (place + 1)) (flat_map f (range_with_len (place + 1 + 1) (count - (place + 1))))
    ∙ ap (λ (ks : List ℕ). out ++ flat_map f ks) (sym (range_next place count lt))
