-- Eight digits are a whole number.
use Rattle.std.proofs.Common.{◌≡◌, ℕ, ◌<◌, pos, Bool, true, false, List, [], ◌∷◌, length, Some, refl, subst, eqb, arith, rules}
use Rattle.std.specs.List.{list_all}
use Rattle.std.specs.Char.{is_ascii_digit}
use Rattle.std.specs.Str.Parse.{digits_value}
use Rattle.std.proofs.lemmas.Bool.{eqb-true}
use Rattle.std.proofs.lemmas.Str.Parse.{IsNumeralModel, numerals_by_value, digits_value_short}
use Rattle.geda_text.specs.Lines.{digits_of, whole_of}

own : IsNumeralModel (λ ds. list_all is_ascii_digit ds ≡ true) (digits_value 10)
own = numerals_by_value _ (search rules)

pub small_date : (ds : List ℕ) → length ds ≡ 8 → list_all is_ascii_digit ds ≡ true → digits_value 10 ds < 100000000
small_date ds n h = digits_value_short own ds 8 h (omega (arith, n))

no_sign : (d : ℕ) (ds : List ℕ) → list_all is_ascii_digit (d ∷ ds) ≡ true → eqb d 45 ≡ false
no_sign d ds h = go (eqb d 45) refl
  where
    go : (b : Bool) → eqb d 45 ≡ b → b ≡ false
    go true e = absurd (let f = subst (λ (c : ℕ). list_all is_ascii_digit (c ∷ ds) ≡ true) (eqb-true _ _ e) h in cc)
    go false e = refl

pub whole_date : (ds : List ℕ) → length ds ≡ 8 → list_all is_ascii_digit ds ≡ true → whole_of ds ≡ Some (pos (digits_value 10 ds))
unfolding whole_of digits_of
whole_date [] n h = absurd (omega (arith, n))
whole_date (d ∷ ds) n h = rw (no_sign d ds h, n, h) refl
