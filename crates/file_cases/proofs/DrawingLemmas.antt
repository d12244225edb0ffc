-- What is there after an insertion and a removal.
use Rattle.std.proofs.Common.{arith, rules, ◌≡◌, ◌≢◌, ◌≤◌, ◌<◌, ◌+◌, ℕ, Bool, true, false, cond, Some, None, IsSome, refl, sym, ap, subst, ◌∙◌}
use Rattle.std.specs.Cmp.{eq_by_cmp_equiv}
use Rattle.std.specs.Ordering.{eq_by_cmp}
use Rattle.std.specs.FinMap.{FinMap, empty, get, insert, remove, get-empty, get-insert, get-remove}
use Rattle.std.proofs.lemmas.Map.Views.{tells_apart}
use Rattle.geda_geom.specs.declared.conductor.Conductor.{Conductor}
use Rattle.geda_geom.specs.Keys.{by_key}
use Rattle.geda_geom.proofs.KeyLemmas.{by_key_total, exact_keys}
use Rattle.file_cases.specs.steps.Drawings.{key_at, HasFirst, HasOthers}

-- whether two places have one key
abbrev is_one : ℕ → ℕ → Bool
is_one i j = eq_by_cmp by_key (key_at i) (key_at j)

same_place : (i j : ℕ) → is_one i j ≡ true → i ≡ j
same_place i j e = ap (λ k. k.id) (tells_apart exact_keys (key_at i) (key_at j) e)

other_place : (i j : ℕ) → is_one i j ≡ false → i ≢ j
other_place i j e same =
    let both : true ≡ false = sym ((eq_by_cmp_equiv by_key_total).refl (key_at i)) ∙ ap (is_one i) same ∙ e in absurd (cc)

-- before the first insertion
pub none_yet : HasFirst empty 0
none_yet = record { there = λ i below. absurd (omega (arith, below)); free = λ i from. get-empty by_key (key_at i) }

-- one more, at the next place
pub one_more : (m : FinMap by_key Conductor) (n : ℕ) (v : Conductor) → HasFirst m n → HasFirst (insert m (key_at n) v) (n + 1)
one_more m n v has = record { there = there; free = free }
  where
    there_by : (i : ℕ) (b : Bool) → is_one i n ≡ b → i < n + 1 → IsSome (cond b (Some v) (get m (key_at i)))
    there_by i true e below = search rules
    there_by i false e below = has.there i (omega (arith, below, other_place i n e))

    there : (i : ℕ) → i < n + 1 → IsSome (get (insert m (key_at n) v) (key_at i))
    there i below = subst IsSome (sym (get-insert by_key_total m (key_at n) v (key_at i))) (there_by i (is_one i n) refl below)

    free_by : (i : ℕ) (b : Bool) → is_one i n ≡ b → n + 1 ≤ i → cond b (Some v) (get m (key_at i)) ≡ None
    free_by i true e from = absurd (let same = same_place i n e in omega (arith, from, same))
    free_by i false e from = has.free i (omega (arith, from))

    free : (i : ℕ) → n + 1 ≤ i → get (insert m (key_at n) v) (key_at i) ≡ None
    free i from = get-insert by_key_total m (key_at n) v (key_at i) ∙ free_by i (is_one i n) refl from

-- one less
pub one_less : (m : FinMap by_key Conductor) (n gone : ℕ) → HasFirst m n → HasOthers (remove m (key_at gone)) n gone
one_less m n gone has i below apart = subst IsSome (sym (get-remove by_key_total m (key_at gone) (key_at i))) (by (is_one i gone) refl)
  where
    by : (b : Bool) → is_one i gone ≡ b → IsSome (cond b None (get m (key_at i)))
    by true e = absurd (apart (same_place i gone e))
    by false e = has.there i below
