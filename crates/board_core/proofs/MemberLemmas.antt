-- Members of lists, and lists in which each stands once.
use Rattle.std.proofs.Common.{◌≡◌, ◌⊎◌, inl, inr, ℕ, zero, suc, Bool, true, false, cond, List, [], ◌∷◌, ◌++◌, Option, Some, None, filter, map, length, get_or, refl, sym, ap, subst, ◌∙◌, arith}
use Rattle.std.specs.List.{filter_map, flat_map, slice_get}
use Rattle.std.specs.Prelude.{◌<◌, Contains}
use Rattle.board_core.specs.steps.Members.{Distinct, In}

module _ {X : Type 0} where
  pub in_left : (x : X) (xs ys : List X) → In x xs → In x (xs ++ ys)
  in_left x [] ys h = absurd h
  in_left x (z ∷ xs) ys (inl e) = inl e
  in_left x (z ∷ xs) ys (inr h) = inr (in_left x xs ys h)

  pub in_right : (x : X) (xs ys : List X) → In x ys → In x (xs ++ ys)
  in_right x [] ys h = h
  in_right x (z ∷ xs) ys h = inr (in_right x xs ys h)

  pub in_either : (x : X) (xs ys : List X) → In x (xs ++ ys) → In x xs ⊎ In x ys
  in_either x [] ys h = inr h
  in_either x (z ∷ xs) ys (inl e) = inl (inl e)
  in_either x (z ∷ xs) ys (inr h) = elim (in_either x xs ys h) [ inl a ↦ inl (inr a) | inr b ↦ inr b ]

  -- a member passes the test of a filter, and was there
  pub filtered : (t : X → Bool) (x : X) (xs : List X) → In x (filter t xs) → In x xs × (t x ≡ true)
  filtered t x [] h = absurd h
  filtered t x (z ∷ xs) h = by (filtered t x xs) (t z) refl h
    where
      by : (In x (filter t xs) → In x xs × (t x ≡ true)) → (b : Bool) → t z ≡ b → In x (filter t (z ∷ xs)) → In x (z ∷ xs) × (t x ≡ true)
      by rest true e h = elim (subst (In x) (ap (λ b. cond b (z ∷ filter t xs) (filter t xs)) e) h) [
        | inl same ↦ (inl same, subst (λ y. t y ≡ true) same e)
        | inr more ↦ (inr (rest more).0, (rest more).1)
      ]
      by rest false e h = let more = rest (subst (In x) (ap (λ b. cond b (z ∷ filter t xs) (filter t xs)) e) h) in (inr more.0, more.1)

  pub in_filter : (t : X → Bool) (x : X) (xs : List X) → In x xs → t x ≡ true → In x (filter t xs)
  in_filter t x [] h e = absurd h
  in_filter t x (z ∷ xs) h e = by (in_filter t x xs) (t z) refl h
    where
      by : (In x xs → t x ≡ true → In x (filter t xs)) → (b : Bool) → t z ≡ b → In x (z ∷ xs) → In x (filter t (z ∷ xs))
      by rest true f (inl same) = subst (In x) (sym (ap (λ b. cond b (z ∷ filter t xs) (filter t xs)) f)) (inl same)
      by rest true f (inr more) = subst (In x) (sym (ap (λ b. cond b (z ∷ filter t xs) (filter t xs)) f)) (inr (rest more e))
      by rest false f (inl same) = absurd (let p : true ≡ false = sym (subst (λ y. t y ≡ true) (sym same) e) ∙ f in cc)
      by rest false f (inr more) = subst (In x) (sym (ap (λ b. cond b (z ∷ filter t xs) (filter t xs)) f)) (rest more e)

  pub at_place : (x : X) (xs : List X) → In x xs → (i : ℕ) × (slice_get xs i ≡ Some x)
  at_place x [] h = absurd h
  at_place x (z ∷ xs) (inl e) = (zero, ap Some e)
  at_place x (z ∷ xs) (inr h) = let rest = at_place x xs h in (suc rest.0, rest.1)

  pub of_place : (i : ℕ) (x : X) (xs : List X) → slice_get xs i ≡ Some x → In x xs
  of_place i x [] e = absurd (cc e)
  of_place zero x (z ∷ xs) e = inl (cc e)
  of_place (suc i) x (z ∷ xs) e = inr (of_place i x xs e)

  pub distinct_append : (xs ys : List X) → Distinct xs → Distinct ys → ((x : X) → In x xs → In x ys → ⊥) → Distinct (xs ++ ys)
  distinct_append [] ys first second apart = second
  distinct_append (x ∷ xs) ys first second apart = (
    λ h. elim (in_either x xs ys h) [ inl a ↦ first.0 a | inr b ↦ apart x (inl refl) b ],
    distinct_append xs ys first.1 second (λ z a b. apart z (inr a) b),
  )

module _ {X Y : Type 0} where
  pub in_map : (f : X → Y) (x : X) (xs : List X) → In x xs → In (f x) (map f xs)
  in_map f x [] h = absurd h
  in_map f x (z ∷ xs) (inl e) = inl (ap f e)
  in_map f x (z ∷ xs) (inr h) = inr (in_map f x xs h)

  -- what a member of a mapped list is made of
  pub record IsMapped (f : X → Y) (y : Y) (xs : List X) : Type 0 where
    pub of : X
    pub there : In of xs
    pub is : f of ≡ y

  pub mapped : (f : X → Y) (y : Y) (xs : List X) → In y (map f xs) → IsMapped f y xs
  mapped f y [] h = absurd h
  mapped f y (z ∷ xs) (inl e) = record { of = z; there = inl refl; is = e }
  mapped f y (z ∷ xs) (inr h) = let rest = mapped f y xs h in record { of = rest.of; there = inr rest.there; is = rest.is }

  pub in_flat : (f : X → List Y) (x : X) (y : Y) (xs : List X) → In x xs → In y (f x) → In y (flat_map f xs)
  in_flat f x y [] h k = absurd h
  in_flat f x y (z ∷ xs) (inl e) k = in_left y (f z) (flat_map f xs) (subst (λ w. In y (f w)) (sym e) k)
  in_flat f x y (z ∷ xs) (inr h) k = in_right y (f z) (flat_map f xs) (in_flat f x y xs h k)

  -- what has a member of a flat list
  pub record IsFlat (f : X → List Y) (y : Y) (xs : List X) : Type 0 where
    pub of : X
    pub there : In of xs
    pub has : In y (f of)

  pub flat : (f : X → List Y) (y : Y) (xs : List X) → In y (flat_map f xs) → IsFlat f y xs
  flat f y [] h = absurd h
  flat f y (z ∷ xs) h = elim (in_either y (f z) (flat_map f xs) h) [
    | inl a ↦ record { of = z; there = inl refl; has = a }
    | inr b ↦ let rest = flat f y xs b in record { of = rest.of; there = inr rest.there; has = rest.has }
  ]

  pub in_found : (f : X → Option Y) (x : X) (y : Y) (xs : List X) → In x xs → f x ≡ Some y → In y (filter_map f xs)
  in_found f x y [] h e = absurd h
  in_found f x y (z ∷ xs) h e = by (in_found f x y xs) (f z) refl h
    where
      by : (In x xs → f x ≡ Some y → In y (filter_map f xs)) → (o : Option Y) → f z ≡ o → In x (z ∷ xs) → In y (filter_map f (z ∷ xs))
      by rest None g (inl same) = absurd (let p : None ≡ Some y = sym g ∙ ap f same ∙ e in cc)
      by rest None g (inr more) = rw g (rest more e)
      by rest (Some w) g (inl same) = rw g (inl (let p : Some w ≡ Some y = sym g ∙ ap f same ∙ e in cc))
      by rest (Some w) g (inr more) = rw g (inr (rest more e))

  -- what a member of a list of what was found comes from
  pub record IsFound (f : X → Option Y) (y : Y) (xs : List X) : Type 0 where
    pub of : X
    pub there : In of xs
    pub is : f of ≡ Some y

  pub found : (f : X → Option Y) (y : Y) (xs : List X) → In y (filter_map f xs) → IsFound f y xs
  found f y [] h = absurd h
  found f y (z ∷ xs) h = by (found f y xs) (f z) refl h
    where
      by : (In y (filter_map f xs) → IsFound f y xs) → (o : Option Y) → f z ≡ o → In y (filter_map f (z ∷ xs)) → IsFound f y (z ∷ xs)
      by rest None g h = let more = rest (rw g at h) in record { of = more.of; there = inr more.there; is = more.is }
      by rest (Some w) g h = elim (let k : (w ≡ y) ⊎ In y (filter_map f xs) = rw g at h in k) [
        | inl same ↦ record { of = z; there = inl refl; is = g ∙ ap Some same }
        | inr h2 ↦ let more = rest h2 in record { of = more.of; there = inr more.there; is = more.is }
      ]

  -- values that stand once under keys that do not clash
  pub distinct_map : (f : X → Y) (xs : List X) → Distinct (map f xs) → Distinct xs
  distinct_map f [] d = tt
  distinct_map f (x ∷ xs) d = (λ h. d.0 (in_map f x xs h), distinct_map f xs d.1)

  -- a part of a list has each once where the list has
  pub distinct_filter : (f : X → Y) (t : X → Bool) (xs : List X) → Distinct (map f xs) → Distinct (map f (filter t xs))
  distinct_filter f t [] d = tt
  distinct_filter f t (x ∷ xs) d = by (distinct_filter f t xs d.1) (t x) refl
    where
      by : Distinct (map f (filter t xs)) → (b : Bool) → t x ≡ b → Distinct (map f (filter t (x ∷ xs)))
      by rest true e = rw e (
        λ h. let m = mapped f (f x) (filter t xs) h in d.0 (subst (λ y. In y (map f xs)) m.is (in_map f m.of xs (filtered t m.of xs m.there).0)),
        rest,
      )
      by rest false e = rw e rest

-- members by place
pub contains_in : {X : Type 0} (x : X) (xs : List X) → Contains xs x → In x xs
contains_in x [] h = absurd (omega (arith, h.1))
contains_in {X} x (z ∷ xs) h = by (contains_in x xs) h.0 h.1 h.2
  where
    by : (Contains xs x → In x xs) → (k : ℕ) → k < length (z ∷ xs) → get_or (z ∷ xs) k x ≡ x → In x (z ∷ xs)
    by rest zero lt e = inl e
    by rest (suc k) lt e = inr (rest (k, omega (arith, lt), e))

pub in_contains : {X : Type 0} (x : X) (xs : List X) → In x xs → Contains xs x
in_contains x [] h = absurd h
in_contains x (z ∷ xs) (inl e) = (zero, omega arith, e)
in_contains x (z ∷ xs) (inr h) = let rest = in_contains x xs h in let lt = rest.1 in (suc rest.0, omega arith, rest.2)
