-- Lists that grow by what is there.
use Rattle.std.proofs.Common.{◌≡◌, List, [], ◌∷◌, ◌++◌, Option, Some, None, refl, ap, append_assoc}
use Rattle.std.specs.List.{cons_option, filter_map, slice_get}
use Rattle.std.specs.Option.{option_or, option_to_list}

-- an item that may be there, and more behind it
pub push_more : {A : Type 0} (xs : List A) (item : Option A) (rest : List A)
    → (xs ++ option_to_list item) ++ rest ≡ xs ++ cons_option item rest
push_more xs None rest = append_assoc xs [] rest
push_more xs (Some x) rest = append_assoc xs (x ∷ []) rest

-- the first of a list in front of which a value may be
pub first_cons : {A : Type 0} (v : Option A) (vs : List A) → slice_get (cons_option v vs) 0 ≡ option_or v (slice_get vs 0)
first_cons None vs = refl
first_cons (Some v) vs = refl

-- what two functions make of a list, one after the other
pub filter_map-twice : {A B C : Type 0} (f : A → Option B) (g : B → Option C) (then : Option B → Option C)
    → then None ≡ None → ((b : B) → then (Some b) ≡ g b)
    → (xs : List A) → filter_map (λ x. then (f x)) xs ≡ filter_map g (filter_map f xs)
filter_map-twice f g then none some [] = refl
filter_map-twice {A} {B} {C} f g then none some (x ∷ xs) = by (f x) (filter_map-twice f g then none some xs)
  where
    by : (o : Option B) → filter_map (λ y. then (f y)) xs ≡ filter_map g (filter_map f xs)
        → cons_option (then o) (filter_map (λ y. then (f y)) xs) ≡ filter_map g (cons_option o (filter_map f xs))
    by None h = rw none h
    by (Some b) h = rw (some b) (ap (cons_option (g b)) h)
