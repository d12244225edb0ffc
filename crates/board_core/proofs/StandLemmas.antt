-- What stands on each sheet when conductors have left and come, conductor by conductor.
use Rattle.std.proofs.Common.{◌≡◌, ◌≢◌, ◌⊎◌, inl, inr, true, false, cond, List, [], ◌∷◌, Option, Some, None, IsSome, is_some, map, refl, sym, ap, subst, ◌∙◌}
use Rattle.std.specs.FinMap.{get, insert, remove, same_map}
use Rattle.geda_geom.specs.declared.conductor.Conductor.{Conductor}
use Rattle.geda_geom.specs.declared.conductor.Key.{Key}
use Rattle.geda_geom.proofs.KeyLemmas.{by_key_total, exact_keys}
use Rattle.net_flood.specs.Grouping.{Conductors}
use Rattle.net_flood.proofs.ConductorLemmas.{get_inserted, get_removed, removed_apart, some_inserted}
use Rattle.net_flood.proofs.KeyLemmas as keys
use Rattle.group_runs.specs.Runs.{AreFree, AreThere, BySheet, Coming, Leaving, SheetName, less, more, with_all, with_sheet, without}
use Rattle.group_runs.proofs.RowLemmas.{apart, here, same_or_apart}
use Rattle.board_core.specs.steps.Members.{Distinct, In}
use Rattle.board_core.proofs.MemberLemmas.{in_map}

some_is_some : {X : Type 0} (o : Option X) (x : X) → o ≡ Some x → IsSome o
some_is_some o x e = ap is_some e

-- finite maps that have the same conductors are the same
pub same_conductors : (a b : Conductors) → ((k : Key) (v : Conductor) → get a k ≡ Some v → get b k ≡ Some v) → ((k : Key) (v : Conductor) → get b k ≡ Some v → get a k ≡ Some v) → a ≡ b
same_conductors a b to back = same_map by_key_total exact_keys a b each
  where
    by : (k : Key) (o p : Option Conductor) → get a k ≡ o → get b k ≡ p → get a k ≡ get b k
    by k None None e f = e ∙ sym f
    by k (Some v) p e f = e ∙ sym (to k v e)
    by k None (Some w) e f = back k w f ∙ sym f

    each : (k : Key) → get a k ≡ get b k
    each k = by k (get a k) (get b k) refl refl

-- one sheet has other conductors
module _ (at : BySheet) (sheet : SheetName) (cs : Conductors) where
  pub set_here : with_sheet at sheet cs sheet ≡ cs
  set_here = ap (λ b. cond b cs (at sheet)) (here sheet)

  pub set_apart : (s : SheetName) → sheet ≢ s → with_sheet at sheet cs s ≡ at s
  set_apart s n = ap (λ b. cond b cs (at s)) (apart sheet s n)

-- one conductor comes
module _ (at : BySheet) (c : Coming) (free : get (at c.0) c.1.0 ≡ None) where
  pub more_cases : (s : SheetName) (k : Key) (v : Conductor) → get (more at c s) k ≡ Some v → (get (at s) k ≡ Some v) ⊎ (c ≡ (s, (k, v)))
  more_cases s k v e = elim (same_or_apart c.0 s) [
    | inr n ↦ inl (sym (ap (λ cs. get cs k) (set_apart at c.0 (insert (at c.0) c.1.0 c.1.1) s n)) ∙ e)
    | inl same ↦ elim (keys.same_or_apart k c.1.0) [
      | inl is ↦
          let now : get (insert (at c.0) c.1.0 c.1.1) c.1.0 ≡ Some v = sym (ap (λ cs. get cs c.1.0) (set_here at c.0 (insert (at c.0) c.1.0 c.1.1))) ∙ ap (λ t. get (more at c t) c.1.0) same ∙ ap (get (more at c s)) (sym is) ∙ e in
          let value : c.1.1 ≡ v = let p : Some c.1.1 ≡ Some v = sym (some_inserted (at c.0) c.1.0 c.1.1) ∙ now in cc in
          inr (λ i. (same i, (sym is i, value i)))
      | inr n ↦
          let now : get (insert (at c.0) c.1.0 c.1.1) k ≡ Some v = sym (ap (λ cs. get cs k) (set_here at c.0 (insert (at c.0) c.1.0 c.1.1))) ∙ ap (λ t. get (more at c t) k) same ∙ e in
          inl (ap (λ t. get (at t) k) (sym same) ∙ sym (get_inserted (at c.0) c.1.0 c.1.1 k n) ∙ now)
    ]
  ]

  pub more_has : get (more at c c.0) c.1.0 ≡ Some c.1.1
  more_has = ap (λ cs. get cs c.1.0) (set_here at c.0 (insert (at c.0) c.1.0 c.1.1)) ∙ some_inserted (at c.0) c.1.0 c.1.1

  pub more_keeps : (s : SheetName) (k : Key) (v : Conductor) → get (at s) k ≡ Some v → get (more at c s) k ≡ Some v
  more_keeps s k v e = elim (same_or_apart c.0 s) [
    | inr n ↦ ap (λ cs. get cs k) (set_apart at c.0 (insert (at c.0) c.1.0 c.1.1) s n) ∙ e
    | inl same ↦ elim (keys.same_or_apart k c.1.0) [
      | inl is ↦ absurd (let p : None ≡ Some v = sym free ∙ ap (λ t. get (at t) c.1.0) same ∙ ap (get (at s)) (sym is) ∙ e in cc)
      | inr n ↦
          ap (λ t. get (more at c t) k) (sym same)
          ∙ ap (λ cs. get cs k) (set_here at c.0 (insert (at c.0) c.1.0 c.1.1))
          ∙ get_inserted (at c.0) c.1.0 c.1.1 k n ∙ ap (λ t. get (at t) k) same ∙ e
    ]
  ]

-- conductors come one after the other
pub with_cases : (at : BySheet) (cs : List Coming) → AreFree at cs → (s : SheetName) (k : Key) (v : Conductor) → get (with_all at cs s) k ≡ Some v
    → (get (at s) k ≡ Some v) ⊎ In (s, (k, v)) cs
with_cases at [] free s k v e = inl e
with_cases at (c ∷ cs) free s k v e = elim (with_cases (more at c) cs free.1 s k v e) [
  | inl before ↦ elim (more_cases at c free.0 s k v before) [ inl first ↦ inl first | inr is ↦ inr (inl is) ]
  | inr h ↦ inr (inr h)
]

pub with_keeps : (at : BySheet) (cs : List Coming) → AreFree at cs → (s : SheetName) (k : Key) (v : Conductor) → get (at s) k ≡ Some v → get (with_all at cs s) k ≡ Some v
with_keeps at [] free s k v e = e
with_keeps at (c ∷ cs) free s k v e = with_keeps (more at c) cs free.1 s k v (more_keeps at c free.0 s k v e)

pub with_has : (at : BySheet) (cs : List Coming) → AreFree at cs → (s : SheetName) (k : Key) (v : Conductor) → In (s, (k, v)) cs → get (with_all at cs s) k ≡ Some v
with_has at [] free s k v h = absurd h
with_has at (c ∷ cs) free s k v (inl is) =
    with_keeps (more at c) cs free.1 s k v (subst (λ (d : Coming). get (more at c d.0) d.1.0 ≡ Some d.1.1) is (more_has at c free.0))
with_has at (c ∷ cs) free s k v (inr h) = with_has (more at c) cs free.1 s k v h

-- the keys are free where they are free at first, and each comes once
pub are_free : (at : BySheet) (cs : List Coming) → ((c : Coming) → In c cs → get (at c.0) c.1.0 ≡ None) → Distinct (map (λ (c : Coming). c.1.0) cs) → AreFree at cs
are_free at [] free d = tt
are_free at (c ∷ cs) free d = (free c (inl refl), are_free (more at c) cs later d.1)
  where
    later : (e : Coming) → In e cs → get (more at c e.0) e.1.0 ≡ None
    later e h = by (get (more at c e.0) e.1.0) refl
      where
        by : (o : Option Conductor) → get (more at c e.0) e.1.0 ≡ o → get (more at c e.0) e.1.0 ≡ None
        by None g = g
        by (Some v) g = absurd (elim (more_cases at c (free c (inl refl)) e.0 e.1.0 v g) [
          | inl before ↦ (let p : None ≡ Some v = sym (free e (inr h)) ∙ before in cc)
          | inr is ↦ d.0 (subst (λ (k : Key). In k (map (λ (x : Coming). x.1.0) cs)) (sym (ap (λ (x : Coming). x.1.0) is)) (in_map (λ (x : Coming). x.1.0) e cs h))
        ])

-- one conductor leaves
module _ (at : BySheet) (l : Leaving) where
  pub less_cases : (s : SheetName) (k : Key) (v : Conductor) → get (less at l s) k ≡ Some v → (get (at s) k ≡ Some v) × (l ≢ (s, k))
  less_cases s k v e = elim (same_or_apart l.0 s) [
    | inr n ↦ (sym (ap (λ cs. get cs k) (set_apart at l.0 (remove (at l.0) l.1) s n)) ∙ e, λ is. n (ap (λ (x : Leaving). x.0) is))
    | inl same ↦
        let now : get (remove (at l.0) l.1) k ≡ Some v = sym (ap (λ cs. get cs k) (set_here at l.0 (remove (at l.0) l.1))) ∙ ap (λ t. get (less at l t) k) same ∙ e in
        let n : k ≢ l.1 = removed_apart (at l.0) l.1 k (some_is_some (get (remove (at l.0) l.1) k) v now) in
        (ap (λ t. get (at t) k) (sym same) ∙ sym (get_removed (at l.0) l.1 k n) ∙ now, λ is. n (sym (ap (λ (x : Leaving). x.1) is)))
  ]

  pub less_keeps : (s : SheetName) (k : Key) (v : Conductor) → get (at s) k ≡ Some v → l ≢ (s, k) → get (less at l s) k ≡ Some v
  less_keeps s k v e other = elim (same_or_apart l.0 s) [
    | inr n ↦ ap (λ cs. get cs k) (set_apart at l.0 (remove (at l.0) l.1) s n) ∙ e
    | inl same ↦
        let n : k ≢ l.1 = λ is. other (λ i. (same i, sym is i)) in
        ap (λ t. get (less at l t) k) (sym same)
        ∙ ap (λ cs. get cs k) (set_here at l.0 (remove (at l.0) l.1))
        ∙ get_removed (at l.0) l.1 k n ∙ ap (λ t. get (at t) k) same ∙ e
  ]

-- conductors leave one after the other
pub without_cases : (at : BySheet) (ls : List Leaving) (s : SheetName) (k : Key) (v : Conductor) → get (without at ls s) k ≡ Some v → (get (at s) k ≡ Some v) × (In (s, k) ls → ⊥)
without_cases at [] s k v e = (e, λ h. h)
without_cases at (l ∷ ls) s k v e =
    let rest = without_cases (less at l) ls s k v e in
    let first = less_cases at l s k v rest.0 in
    (first.0, λ h. elim h [ inl is ↦ first.1 is | inr more ↦ rest.1 more ])

pub without_keeps : (at : BySheet) (ls : List Leaving) (s : SheetName) (k : Key) (v : Conductor) → get (at s) k ≡ Some v → (In (s, k) ls → ⊥) → get (without at ls s) k ≡ Some v
without_keeps at [] s k v e none = e
without_keeps at (l ∷ ls) s k v e none = without_keeps (less at l) ls s k v (less_keeps at l s k v e (λ is. none (inl is))) (λ h. none (inr h))

-- each is there where all are there at first, and each leaves once
pub are_there : (at : BySheet) (ls : List Leaving) → ((l : Leaving) → In l ls → IsSome (get (at l.0) l.1)) → Distinct ls → AreThere at ls
are_there at [] there d = tt
are_there at (l ∷ ls) there d = (there l (inl refl), are_there (less at l) ls later d.1)
  where
    later : (m : Leaving) → In m ls → IsSome (get (less at l m.0) m.1)
    later m h = by (get (at m.0) m.1) refl (there m (inr h))
      where
        by : (o : Option Conductor) → get (at m.0) m.1 ≡ o → IsSome (get (at m.0) m.1) → IsSome (get (less at l m.0) m.1)
        by None g is = absurd (let p : false ≡ true = sym (ap is_some g) ∙ is in cc)
        by (Some v) g is =
            some_is_some (get (less at l m.0) m.1) v (less_keeps at l m.0 m.1 v g (λ same. d.0 (subst (λ (x : Leaving). In x ls) (sym same) h)))

-- a sheet that no conductor leaves or comes to stays
pub without_apart : (at : BySheet) (ls : List Leaving) (s : SheetName) → ((l : Leaving) → In l ls → l.0 ≢ s) → without at ls s ≡ at s
without_apart at [] s n = refl
without_apart at (l ∷ ls) s n = without_apart (less at l) ls s (λ m h. n m (inr h)) ∙ set_apart at l.0 (remove (at l.0) l.1) s (n l (inl refl))

pub with_apart : (at : BySheet) (cs : List Coming) (s : SheetName) → ((c : Coming) → In c cs → c.0 ≢ s) → with_all at cs s ≡ at s
with_apart at [] s n = refl
with_apart at (c ∷ cs) s n = with_apart (more at c) cs s (λ d h. n d (inr h)) ∙ set_apart at c.0 (insert (at c.0) c.1.0 c.1.1) s (n c (inl refl))
