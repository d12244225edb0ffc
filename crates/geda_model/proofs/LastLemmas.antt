-- A list of which the last element is changed.
use Rattle.std.proofs.Common.{◌≡◌, ◌<◌, ◌≤◌, ◌-◌, ◌∷◌, [], ℕ, List, All, length, slice_index_or, slice_set, ◌+◌, zero, suc, Ok, Err, OnOk, Result, false, true, ap, refl, arith}
use Rattle.std.proofs.lemmas.List.{length-set}
use Rattle.std.proofs.lemmas.List.Elements.{All-set}
use Rattle.geda_model.specs.Shapes.{with_last}

-- the element at the last place is the last one
set_last : {A : Type 0} (f : A → A) (old : A) (xs : List A) (n : ℕ) → length xs ≡ n + 1
    → slice_set xs n (f (slice_index_or xs n old)) ≡ with_last f xs
set_last f old [] n long = absurd (omega (arith, long))
set_last f old (x ∷ []) zero long = refl
set_last f old (x ∷ []) (suc n) long = absurd (omega (arith, long))
set_last f old (x ∷ y ∷ rest) zero long = absurd (omega (arith, long))
set_last f old (x ∷ y ∷ rest) (suc n) long =
    ap (λ l. x ∷ l) (set_last f old (y ∷ rest) n (omega (arith, long)))

last_set : {A : Type 0} (f : A → A) (xs : List A) (n : ℕ) (old new : A) → n ≡ length xs
    → 0 < n → old ≡ slice_index_or xs (n - 1) old → new ≡ f old
    → slice_set xs (n - 1) new ≡ with_last f xs
last_set f xs n old new long some is_last is_new =
    rw (is_new, is_last) (set_last f old xs (n - 1) (omega (arith, long, some)))

-- where a text was put there, it is the last one with that text
pub set_ok : {A E : Type 0} (f : A → A) (r : Result (Unit {0}) E) (xs : List A) (n : ℕ) (old new : A)
    → n ≡ length xs → 0 < n → old ≡ slice_index_or xs (n - 1) old → OnOk r (new ≡ f old)
    → OnOk r (slice_set xs (n - 1) new ≡ with_last f xs)
set_ok f (Ok x) xs n old new long some is_last is_new = last_set f xs n old new long some is_last is_new
set_ok f (Err e) xs n old new long some is_last is_new = tt

-- there is no last one
pub no_last : {A : Type 0} (f : A → A) (xs : List A) (n : ℕ) → n ≡ length xs
    → (0 < n → false ≡ true) → xs ≡ with_last f xs
no_last f [] n long none = refl
no_last f (x ∷ xs) n long none = absurd (let is = none (omega (arith, long)) in cc)

-- the others stay as they are, and they are as many
pub all_fit : {A : Type 0} (P : A → Type 0) (xs : List A) (n : ℕ) (new : A) → P new → All P xs
    → All P (slice_set xs n new)
all_fit P xs n new fits all = All-set P xs n new fits all

pub as_many : {A : Type 0} (xs : List A) (n m : ℕ) (new : A) → length xs ≤ m
    → length (slice_set xs n new) ≤ m
as_many xs n m new few = rw (length-set xs n new) few
