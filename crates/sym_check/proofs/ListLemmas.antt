-- Lists that grow by what is there.
use Rattle.std.proofs.Common.{◌≡◌, ◌||◌, Bool, List, [], ◌∷◌, ◌++◌, Option, Some, None, refl, append_assoc}
use Rattle.std.specs.List.{cons_option, flat_map, list_any, slice_get}
use Rattle.std.proofs.lemmas.List.Folds.{list_any-append}

-- the first of a value that may be there
pub first_of_one : {A : Type 0} (v : Option A) → slice_get (cons_option v []) 0 ≡ v
first_of_one None = refl
first_of_one (Some v) = refl

-- what one member makes, and what the others make behind it
pub flat_more : {A B : Type 0} (found : List B) (make : A → List B) (x : A) (xs : List A)
    → (found ++ make x) ++ flat_map make xs ≡ found ++ flat_map make (x ∷ xs)
flat_more found make x xs = append_assoc found (make x) (flat_map make xs)

-- a member of two lists passes a test
pub any_append : {A : Type 0} (p : A → Bool) (xs ys : List A) → list_any p (xs ++ ys) ≡ (list_any p xs || list_any p ys)
any_append p xs ys = list_any-append p xs ys
