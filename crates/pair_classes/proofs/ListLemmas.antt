-- What lists contain.
use Rattle.std.proofs.Common.{arith, ◌≡◌, ◌⊎◌, ◌<◌, ◌+◌, ℕ, inl, inr, List, [], ◌∷◌, Contains}
use Rattle.std.proofs.lemmas.List.Elements.{Contains-append_left, Contains-append_right, Contains-append_cases, Contains-push, Contains-push_cases}

pub head_is_in : {A : Type 0} (x : A) (xs : List A) → Contains (x ∷ xs) x
head_is_in x xs = Contains-append_left (x ∷ []) xs x (Contains-push [] x)

pub tail_is_in : {A : Type 0} (y : A) (xs : List A) (x : A) → Contains xs x → Contains (y ∷ xs) x
tail_is_in y xs x c = Contains-append_right (y ∷ []) xs x c

pub none_is_in : {A : Type 0} {P : Type 0} (x : A) → Contains [] x → P
none_is_in x c = absurd (omega (arith, c.1))

pub in_cases : {A : Type 0} (y : A) (xs : List A) (x : A) → Contains (y ∷ xs) x → (y ≡ x) ⊎ Contains xs x
in_cases y xs x c = elim (Contains-append_cases (y ∷ []) xs x c) [
  | inl a ↦ elim (Contains-push_cases [] y x a) [ inl b ↦ none_is_in x b | inr e ↦ inl e ]
  | inr b ↦ inr b
]

-- of a list of one
pub is_only : {A : Type 0} (y x : A) → Contains (y ∷ []) x → y ≡ x
is_only y x c = elim (in_cases y [] x c) [ inl e ↦ e | inr rest ↦ none_is_in x rest ]

pub earlier_or_here : (i count : ℕ) → i < count + 1 → (i < count) ⊎ (i ≡ count)
earlier_or_here i count lt = grind (arith, lt)
