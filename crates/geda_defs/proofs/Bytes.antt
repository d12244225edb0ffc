-- The test whether two lists of bytes are equal.
use Rattle.std.proofs.Common.{◌≡◌, ◌∙◌, ℕ, List, Bool, true, false, refl, sym}
use Rattle.std.specs.Str.{bytes_eq}
use Rattle.std.proofs.lemmas.Bool.{false_from_ne_true, true≢false}
use Rattle.std.proofs.lemmas.Slice.Eq.{bytes_eq-Decides}

pub bytes_true : (x y : List ℕ) → x ≡ y → bytes_eq x y ≡ true
bytes_true x y same = (bytes_eq-Decides x y).1 same

pub bytes_same : (x y : List ℕ) → bytes_eq x y ≡ true → x ≡ y
bytes_same x y e = (bytes_eq-Decides x y).0 e

pub bytes_false : (x y : List ℕ) → (x ≡ y → ⊥) → bytes_eq x y ≡ false
bytes_false x y apart = false_from_ne_true (bytes_eq x y) (λ e. apart (bytes_same x y e))

-- the test is the same both ways round
pub bytes_turned : (x y : List ℕ) → bytes_eq x y ≡ bytes_eq y x
bytes_turned x y = by (bytes_eq x y) refl
  where
    by : (b : Bool) → bytes_eq x y ≡ b → bytes_eq x y ≡ bytes_eq y x
    by true e = e ∙ sym (bytes_true y x (sym (bytes_same x y e)))
    by false e = e ∙ sym (bytes_false y x (λ same. true≢false (sym (bytes_true x y (sym same)) ∙ e)))
