-- Names as they print in an instance.
use Rattle.std.proofs.Common.{◌≡◌, ℕ, eqb, true, List, [], ◌∷◌, length, map, refl, ap, sym, arith}
use Rattle.std.proofs.lemmas.Bool.{eqb-true}
use Rattle.instance_objects.specs.Texts.{under}

alone : (names : List (List ℕ)) → names ≡ map (under []) names
alone [] = refl
alone (name ∷ names) = ap (λ (rest : List (List ℕ)). name ∷ rest) (alone names)

-- under an empty path they stand alone
pub under_nothing : (path : List ℕ) → true ≡ eqb (length path) 0 → (names : List (List ℕ)) → names ≡ map (under path) names
under_nothing [] e names = alone names
under_nothing (b ∷ bs) e names = absurd (omega (arith, eqb-true _ _ (sym e)))
