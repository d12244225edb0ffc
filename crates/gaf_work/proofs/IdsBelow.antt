-- Ids of objects are below the next one: a project that changes have made keeps it (own).
use Rattle.std.proofs.Common.{◌≡◌, ℕ, ◌<◌, ◌+◌, ◌^◌, max, Bool, true, false, List, [], ◌∷◌, None, Some, Option, IsSome, cond, refl, subst, arith}
use Rattle.std.specs.Ordering.{eq_by_cmp, nat_cmp}
use Rattle.std.specs.Cmp.{Equal-is}
use Rattle.std.specs.FinMap.{FinMap, get, get-empty, get-insert, get-remove}
use Rattle.std.proofs.lemmas.Cmp.{nat_cmp_total}
use Rattle.std.proofs.lemmas.Map.Lookups.{exact_unsigned}
use Rattle.project_model.specs.declared.change.Placed.{Placed}
use Rattle.project_model.specs.declared.change.Thing.{Thing}
use Rattle.project_model.specs.declared.change.Thing.TheVariants as things
use Rattle.project_model.specs.declared.change.Value.{Value}
use Rattle.project_model.specs.Items.{Item}
use Rattle.project_model.specs.Tables.{set_row}
use Rattle.project_model.specs.Projects.{ProjectData, empty_project}
use Rattle.project_model.specs.Changes.{put_one, put, as_placed}
use Rattle.gaf_work.specs.DrawnSteps.{IdsAreBelow}

below-set_row : (m : FinMap nat_cmp Placed) (n k : ℕ) (row : Option Placed) → ((id : ℕ) → IsSome (get m id) → id < n) → (id : ℕ) → IsSome (get (set_row m k row) id) → id < max n (k + 1)
below-set_row m n k None h id has = by (eq_by_cmp nat_cmp id k) (subst IsSome (get-remove nat_cmp_total m k id) has)
  where
    by : (b : Bool) → IsSome (cond b None (get m id)) → id < max n (k + 1)
    by false there = let l = h id there in omega arith
    by true there = absurd (let e : IsSome {T = Placed} None = there in cc)
below-set_row m n k (Some v) h id has = by (eq_by_cmp nat_cmp id k) refl (subst IsSome (get-insert nat_cmp_total m k v id) has)
  where
    by : (b : Bool) → eq_by_cmp nat_cmp id k ≡ b → IsSome (cond b (Some v) (get m id)) → id < max n (k + 1)
    by false e there = let l = h id there in omega arith
    by true e there = let same : id ≡ k = exact_unsigned id k ((Equal-is (nat_cmp id k)).0 e) in omega arith

IdsAreBelow-put_one : (p : ProjectData) (thing : Thing) (value : Option Value) → IdsAreBelow p → IdsAreBelow (put_one p thing value)
IdsAreBelow-put_one p (things.Object k) value h = below-set_row p.objects p.next_id k (as_placed value) h
IdsAreBelow-put_one p (things.SheetName name) value h = h
IdsAreBelow-put_one p (things.SymbolName name) value h = h

-- a project keeps it through any change
pub IdsAreBelow-put : (p : ProjectData) (items : List Item) → IdsAreBelow p → IdsAreBelow (put p items)
IdsAreBelow-put p [] h = h
IdsAreBelow-put p (item ∷ items) h = IdsAreBelow-put (put_one p item.0 item.1) items (IdsAreBelow-put_one p item.0 item.1 h)

-- and the empty one has it
pub IdsAreBelow-empty_project : IdsAreBelow empty_project
IdsAreBelow-empty_project id has = absurd (let e : IsSome {T = Placed} None = subst IsSome (get-empty nat_cmp id) has in cc)

-- what a deletion owes
pub owed : (p : ProjectData) (id : ℕ) → p.next_id + 1 < 2 ^ 32 → IdsAreBelow p → IsSome (get p.objects id) → id + 1 < 2 ^ 32
owed p id room h has = let l = h id has in omega arith
