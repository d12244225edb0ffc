-- Changes that are built item by item.
use Rattle.std.proofs.Common.{◌≡◌, ◌≢◌, ℕ, ◌+◌, ◌<◌, ◌^◌, List, [], ◌∷◌, ◌++◌, get_or, All, Option, length, ap, arith}
use Rattle.std.proofs.lemmas.List.Quantifiers.{all_pairs_push}
use Rattle.std.proofs.lemmas.List.{get_or-map, length-map}
use Rattle.std.proofs.lemmas.List.Elements.{All-append, All-cons, All-nil}
use Rattle.project_model.specs.declared.change.Thing.{Thing}
use Rattle.project_model.specs.declared.change.Thing.TheVariants as things
use Rattle.project_model.specs.declared.change.Value.{Value}
use Rattle.project_model.specs.Items.{Item}
use Rattle.project_model.specs.Projects.{ProjectData}
use Rattle.project_model.specs.Changes.{IsIdInRange, values_in, value_at, CanApply}

-- the change of nothing
pub CanApply-nil : CanApply []
CanApply-nil = record { distinct = λ i j d lt end. absurd (omega arith); in_range = All-nil (λ (item : Item). IsIdInRange item.0) }

-- the change of one thing
pub one_can_apply : (thing : Thing) (value : Option Value) → IsIdInRange thing → CanApply ((thing, value) ∷ [])
one_can_apply thing value h =
    let item : Item = (thing, value) in
    record {
      distinct = λ i j d lt end. absurd (omega arith);
      in_range = All-cons (λ (i : Item). IsIdInRange i.0) item [] h (All-nil _);
    }

-- one more thing, which no item has
pub CanApply-push : (items : List Item) (thing : Thing) (value : Option Value) → CanApply items → All (λ (item : Item). item.0 ≢ thing) items → IsIdInRange thing → CanApply (items ++ (thing, value) ∷ [])
CanApply-push items thing value built apart in_range =
    let item : Item = (thing, value) in
    record {
      distinct = all_pairs_push (λ (a b : Item). a.0 ≢ b.0) items item built.distinct apart;
      in_range = All-append (λ (a : Item). IsIdInRange a.0) items (item ∷ []) built.in_range (All-cons (λ (a : Item). IsIdInRange a.0) item [] in_range (All-nil _));
    }

-- the id of an object is below a bound
abbrev pub IsBelow : ℕ → Item → Type 0
IsBelow n item = below item.0
  where
    below : Thing → Type 0
    below (things.Object i) = i < n
    below (things.SheetName name) = Unit {0}
    below (things.SymbolName name) = Unit {0}

differ : (n : ℕ) (v w : Option Value) (t : Thing) → IsBelow n (t, w) → t ≢ things.Object n
differ n v w (things.Object i) h e = absurd (let k : i ≡ n = cc in omega arith)
differ n v w (things.SheetName name) h e = absurd cc
differ n v w (things.SymbolName name) h e = absurd cc

wider : (n : ℕ) (w : Option Value) (t : Thing) → IsBelow n (t, w) → IsBelow (n + 1) (t, w)
wider n w (things.Object i) h = omega arith
wider n w (things.SheetName name) h = tt
wider n w (things.SymbolName name) h = tt

-- a change that can be applied and whose ids are below a bound
pub record IsBuiltBelow (n : ℕ) (items : List Item) : Type 0 where
  pub can_apply : CanApply items
  pub below : All (IsBelow n) items

-- an object above all others is put behind them
pub IsBuiltBelow-push : (n : ℕ) (items : List Item) (v : Option Value) → n + 1 < 2 ^ 32 → IsBuiltBelow n items → IsBuiltBelow (n + 1) (items ++ (things.Object n, v) ∷ [])
IsBuiltBelow-push n items v h s =
    let item : Item = (things.Object n, v) in
    let here : n < n + 1 = omega arith in
    record {
      can_apply = CanApply-push items (things.Object n) v s.can_apply (λ k d lt. differ n v (get_or items k d).1 (get_or items k d).0 (s.below k d lt)) h;
      below = All-append (IsBelow (n + 1)) items (item ∷ []) (λ k d lt. wider n (get_or items k d).1 (get_or items k d).0 (s.below k d lt)) (All-cons (IsBelow (n + 1)) item [] here (All-nil _));
    }

-- the things alone decide whether a change can be applied, so the old values can be applied again
pub CanApply-values_in : (p : ProjectData) (items : List Item) → CanApply items → CanApply (values_in p items)
CanApply-values_in p items f =
    let seen : (i : ℕ) (d : Item) → i < length items → (get_or (values_in p items) i d).0 ≡ (get_or items i d).0 =
    λ i d lt. ap (λ (u : Item). u.0) (get_or-map (λ (item : Item). (item.0, value_at p item.0)) items i d d lt) in
    let len : length (values_in p items) ≡ length items = length-map items (λ (item : Item). (item.0, value_at p item.0)) in
    record {
      distinct = λ i j d lt end. rw (seen i d (omega arith), seen j d (omega arith)) (f.distinct i j d lt (omega arith));
      in_range = λ i d lt. rw (seen i d (omega arith)) (f.in_range i d (omega arith));
    }
