-- An owner's rows stay, whatever happens.
use Rattle.std.proofs.Common.{◌≡◌, ◌∙◌, ◌+◌, ◌⊎◌, ◌≤◌, ◌<◌, ◌++◌, ◌∷◌, ◌&&◌, ◌==◌, [], inl, inr, ℕ, zero, suc, List, Bool, true, false, not, Option, None, Some, refl, sym, ap, subst, arith, length, take, nat_lt, nat_le, slice_get, if◌then◌else◌}
use Rattle.std.specs.List.{AllByRecursion}
use Rattle.std.specs.Prelude.{slice_set}
use Rattle.std.proofs.lemmas.Bool.{and_parts, cases_lt, eqb-true, leb-true, ltb-true, ltb-false}
use Rattle.std.proofs.lemmas.List.{take-set-le, take-append-le, length-set, length-append, take_more_set}
use Rattle.engine_core.specs.Calls.{Elapses, take_txn, put_txn}
use Rattle.engine_core.specs.Worlds.{TxnData, World, acted, after_txn, after_late, elapsed, happened, has_room, is_done, is_others, owned, put_at, with_late, with_other, with_row}
use Rattle.engine_core.specs.declared.txns.Act.{Act}
use Rattle.engine_core.specs.declared.txns.Act.TheVariants as acts
use Rattle.engine_core.specs.declared.txns.Event.{Event}
use Rattle.engine_core.specs.declared.txns.Event.TheVariants as events
use Rattle.engine_board.specs.Holding.{IsFresh, IsHolding, IsInDoubt, IsLate}
use Rattle.engine_board.specs.steps.Stays.{HasPut, Stays}

-- rows that are put behind leave those before
pub put_same : (count serial : ℕ) (body : List ℕ) (rows : List (List ℕ)) → count ≤ serial → count ≤ length rows → take count (put_at serial body rows) ≡ take count rows
put_same count serial body rows far there = go (nat_lt serial (length rows)) refl
  where
    go : (b : Bool) → nat_lt serial (length rows) ≡ b → take count (if b then slice_set rows serial body else rows ++ body ∷ []) ≡ take count rows
    go true e = take-set-le count rows serial body far
    go false e = take-append-le count rows (body ∷ []) there

-- and there are no fewer
pub put_grows : (serial : ℕ) (body : List ℕ) (rows : List (List ℕ)) → length rows ≤ length (put_at serial body rows)
put_grows serial body rows = go (nat_lt serial (length rows)) refl
  where
    go : (b : Bool) → nat_lt serial (length rows) ≡ b → length rows ≤ length (if b then slice_set rows serial body else rows ++ body ∷ [])
    go true e = omega (arith, length-set rows serial body)
    go false e = omega (arith, length-append rows (body ∷ []))

-- a row that is put at the end, or in place of the last, leaves one more at most
pub put_most : (serial : ℕ) (body : List ℕ) (rows : List (List ℕ)) → serial ≤ length rows → length rows ≤ serial + 1 → length (put_at serial body rows) ≡ serial + 1
put_most serial body rows there most = go (nat_lt serial (length rows)) refl
  where
    go : (b : Bool) → nat_lt serial (length rows) ≡ b → length (if b then slice_set rows serial body else rows ++ body ∷ []) ≡ serial + 1
    go true e = omega (arith, length-set rows serial body, ltb-true serial (length rows) e)
    go false e = omega (arith, length-append rows (body ∷ []), ltb-false serial (length rows) e)

pub take_all : (n : ℕ) (rows : List (List ℕ)) → length rows ≤ n → take n rows ≡ rows
take_all zero [] few = refl
take_all zero (r ∷ rs) few = absurd (omega (arith, few))
take_all (suc n) [] few = refl
take_all (suc n) (r ∷ rs) few = ap (λ xs. r ∷ xs) (take_all n rs (omega (arith, few)))

-- the last row is the one that was put
pub put_last : (serial : ℕ) (body : List ℕ) (rows : List (List ℕ)) → serial ≤ length rows → take (serial + 1) (put_at serial body rows) ≡ take serial rows ++ body ∷ []
put_last serial body rows there = go (nat_lt serial (length rows)) refl
  where
    go : (b : Bool) → nat_lt serial (length rows) ≡ b → take (serial + 1) (if b then slice_set rows serial body else rows ++ body ∷ []) ≡ take serial rows ++ body ∷ []
    go true e = take_more_set rows serial body (ltb-true serial (length rows) e)
    go false e =
        let all : serial ≡ length rows = omega (arith, there, ltb-false serial (length rows) e) in
        take_all (serial + 1) (rows ++ body ∷ []) (omega (arith, all, length-append rows (body ∷ []))) ∙ ap (λ rs. rs ++ body ∷ []) (sym (take_all serial rows (omega (arith, all))))

pub false_true : {A : Type 0} (b : Bool) → b ≡ false → b ≡ true → A
false_true b wrong right = absurd (let e : false ≡ true = sym wrong ∙ right in cc)

pub late_of : (P : TxnData → Type 0) (ts : List TxnData) (i : ℕ) (t : TxnData) → AllByRecursion P ts → slice_get ts i ≡ Some t → P t
late_of P [] i t all is = absurd (let e = is in cc)
late_of P (x ∷ xs) zero t all is = subst P (let e : Some x ≡ Some t = is in cc) all.0
late_of P (x ∷ xs) (suc i) t all is = late_of P xs i t all.1 is

-- what is not the owner's where another thing is, is not where that is not
not_own : (a b : Bool) → (a ≡ true → b ≡ true) → b ≡ false → a ≡ false
not_own true b own e = false_true b e (own refl)
not_own false b own e = refl

module _ (fence : ℕ) (doubt : Bool) (count : ℕ) where
  abbrev Keeps : World → World → Type 0
  Keeps w v = Stays fence doubt count w v

  pub same : (w : World) → IsHolding fence doubt count w → Keeps w w
  same w holds = record { holding = holds; same = refl; lost = λ e. e }

  -- the owner's key is put by whomever
  owned_keeps : (ours : Bool) (w : World) → IsHolding fence doubt count w → (ours ≡ true → w.ours ≡ true) → Keeps w (owned ours w)
  owned_keeps ours w holds own = record {
    holding = record {
      reached = omega (arith, holds.reached, holds.now);
      now = omega arith;
      own = λ e. absurd (omega (arith, e, holds.reached, holds.now));
      rows = holds.rows;
      base = λ e. found w.ours refl;
      most = λ e. holds.most (own e);
      late = holds.late;
    };
    same = refl;
    lost = not_own ours w.ours own;
  }
    where
      found : (b : Bool) → w.ours ≡ b → count ≤ (if b then length w.rows else w.base)
      found true e = holds.rows
      found false e = holds.base e

  other_keeps : (w : World) → IsHolding fence doubt count w → Keeps w (with_other w)
  other_keeps w holds = record {
    holding = record {
      reached = holds.reached;
      now = omega (arith, holds.now);
      own = holds.own;
      rows = holds.rows;
      base = holds.base;
      most = holds.most;
      late = holds.late;
    };
    same = refl;
    lost = λ e. e;
  }

  -- another one puts a row
  wrote_keeps : (serial : ℕ) (body : List ℕ) (w : World) → IsHolding fence doubt count w → w.ours ≡ false → w.base ≤ serial → Keeps w (with_row serial body w)
  wrote_keeps serial body w holds ours far = record {
    holding = record {
      reached = holds.reached;
      now = omega (arith, holds.now);
      own = holds.own;
      rows = omega (arith, holds.rows, put_grows serial body w.rows);
      base = holds.base;
      most = λ e. false_true w.ours ours e;
      late = holds.late;
    };
    same = put_same count serial body w.rows (omega (arith, holds.base ours, far)) holds.rows;
    lost = λ e. e;
  }

-- what may be done late, done where the board is owned
acted_keeps : (fence : ℕ) (doubt : Bool) (count : ℕ) (act : Act) (w : World) → IsHolding fence doubt count w → w.ours ≡ true → IsInDoubt doubt count act → Stays fence doubt count w (acted act w)
acted_keeps fence false count act w holds ours none = absurd none
acted_keeps fence true count acts.Take w holds ours may = owned_keeps fence true count true w holds (λ e. ours)
acted_keeps fence true count (acts.Put serial body) w holds ours is = record {
  holding = record {
    reached = holds.reached;
    now = omega (arith, holds.now);
    own = holds.own;
    rows = omega (arith, holds.rows, put_grows serial body w.rows);
    base = holds.base;
    most = λ e. omega (arith, is, put_most serial body w.rows (omega (arith, is, holds.rows)) (omega (arith, is, holds.most ours)));
    late = holds.late;
  };
  same = put_same count serial body w.rows (omega (arith, is)) holds.rows;
  lost = λ e. e;
}

pub done_under : (fence : ℕ) (w : World) → is_done fence w ≡ true → w.fence ≡ fence
done_under fence w e = eqb-true w.fence fence (and_parts (w.fence == fence) (has_room w) e).0

done_keeps : (fence : ℕ) (doubt : Bool) (count : ℕ) (t : TxnData) (w : World) → IsHolding fence doubt count w → IsLate fence doubt count t → Stays fence doubt count w (after_txn t w)
done_keeps fence doubt count t w holds late = go (is_done t.fence w) refl late
  where
    go : (b : Bool) → is_done t.fence w ≡ b → IsLate fence doubt count t → Stays fence doubt count w (if b then acted t.act w else w)
    go false e l = same fence doubt count w holds
    go true e (inl older) = absurd (omega (arith, older, holds.reached, done_under t.fence w e))
    go true e (inr p) = acted_keeps fence doubt count t.act w holds (holds.own (done_under t.fence w e ∙ p.0)) p.1

happened_keeps : (fence : ℕ) (doubt : Bool) (count : ℕ) (event : Event) (w : World) → IsHolding fence doubt count w → Stays fence doubt count w (happened event w)
happened_keeps fence doubt count (events.Late place) w holds = go (slice_get w.late place) refl
  where
    go : (o : Option TxnData) → slice_get w.late place ≡ o → Stays fence doubt count w (after_late o w)
    go None e = same fence doubt count w holds
    go (Some t) e = done_keeps fence doubt count t w holds (late_of (IsLate fence doubt count) w.late place t holds.late e)
happened_keeps fence doubt count events.Taken w holds = go (has_room w)
  where
    go : (b : Bool) → Stays fence doubt count w (if b then owned false w else w)
    go false = same fence doubt count w holds
    go true = owned_keeps fence doubt count false w holds (λ e. false_true false refl e)
happened_keeps fence doubt count (events.Wrote serial body) w holds = go (is_others serial w) refl
  where
    apart : (b : Bool) → not b ≡ true → b ≡ false
    apart true e = absurd (let f : false ≡ true = e in cc)
    apart false e = refl

    go : (b : Bool) → is_others serial w ≡ b → Stays fence doubt count w (if b then with_row serial body w else w)
    go false e = same fence doubt count w holds
    go true e =
        let p = and_parts (not w.ours) (nat_le w.base serial && (nat_le serial (length w.rows) && has_room w)) e in
        let q = and_parts (nat_le w.base serial) (nat_le serial (length w.rows) && has_room w) p.1 in
        wrote_keeps fence doubt count serial body w holds (apart w.ours p.0) (leb-true w.base serial q.0)
happened_keeps fence doubt count events.Other w holds = go (has_room w)
  where
    go : (b : Bool) → Stays fence doubt count w (if b then with_other w else w)
    go false = same fence doubt count w holds
    go true = other_keeps fence doubt count w holds

elapsed_keeps : (fence : ℕ) (doubt : Bool) (count : ℕ) (es : List Event) (w : World) → IsHolding fence doubt count w → Stays fence doubt count w (elapsed es w)
elapsed_keeps fence doubt count [] w holds = same fence doubt count w holds
elapsed_keeps fence doubt count (event ∷ more) w holds =
    let first = happened_keeps fence doubt count event w holds in
    let rest = elapsed_keeps fence doubt count more (happened event w) first.holding in
    record { holding = rest.holding; same = rest.same ∙ first.same; lost = λ e. rest.lost (first.lost e) }

-- whatever happens, an owner holds what it vouches for
pub elapses_keeps : (fence : ℕ) (doubt : Bool) (count : ℕ) (w v : World) → IsHolding fence doubt count w → Elapses w v → Stays fence doubt count w v
elapses_keeps fence doubt count w v holds e = subst (Stays fence doubt count w) e.are (elapsed_keeps fence doubt count e.events w holds)

pub stays_then : (fence : ℕ) (doubt : Bool) (count : ℕ) (u w v : World) → Stays fence doubt count u w → Stays fence doubt count w v → Stays fence doubt count u v
stays_then fence doubt count u w v first rest = record { holding = rest.holding; same = rest.same ∙ first.same; lost = λ e. rest.lost (first.lost e) }

pub all_map : (P Q : TxnData → Type 0) → ((t : TxnData) → P t → Q t) → (ts : List TxnData) → AllByRecursion P ts → AllByRecursion Q ts
all_map P Q f [] all = tt
all_map P Q f (t ∷ ts) all = (f t all.0, all_map P Q f ts all.1)

pub all_more : (P : TxnData → Type 0) (ts : List TxnData) (t : TxnData) → AllByRecursion P ts → P t → AllByRecursion P (ts ++ t ∷ [])
all_more P [] t all one = (one, tt)
all_more P (x ∷ xs) t all one = (all.0, all_more P xs t all.1 one)

-- what is not answered is late
pub late_keeps : (fence : ℕ) (doubt : Bool) (count : ℕ) (t : TxnData) (w : World) → IsHolding fence doubt count w → IsLate fence doubt count t → Stays fence doubt count w (with_late t w)
late_keeps fence doubt count t w holds late = record {
  holding = record {
    reached = holds.reached;
    now = holds.now;
    own = holds.own;
    rows = holds.rows;
    base = holds.base;
    most = holds.most;
    late = all_more (IsLate fence doubt count) w.late t holds.late late;
  };
  same = refl;
  lost = λ e. e;
}

-- who is sure may doubt
pub doubts : (fence : ℕ) (doubt : Bool) (count : ℕ) (w : World) → IsHolding fence doubt count w → IsHolding fence true count w
doubts fence true count w holds = holds
doubts fence false count w holds = record {
  reached = holds.reached;
  now = holds.now;
  own = holds.own;
  rows = holds.rows;
  base = holds.base;
  most = holds.most;
  late = all_map (IsLate fence false count) (IsLate fence true count) wider w.late holds.late;
}
  where
    wider : (t : TxnData) → IsLate fence false count t → IsLate fence true count t
    wider t (inl older) = inl older
    wider t (inr p) = absurd p.1

pub is_older : (fence : ℕ) (doubt : Bool) (count : ℕ) (t : TxnData) → IsLate fence doubt count t → t.fence ≤ fence
is_older fence doubt count t (inl older) = omega (arith, older)
is_older fence doubt count t (inr p) = omega (arith, p.0)

pub fresh_of : (fence : ℕ) (doubt : Bool) (count : ℕ) (w : World) → IsHolding fence doubt count w → IsFresh w
fresh_of fence doubt count w holds = record {
  now = holds.now;
  late = all_map (IsLate fence doubt count) (λ t. t.fence ≤ w.fence) (λ t l. omega (arith, holds.reached, is_older fence doubt count t l)) w.late holds.late;
}

-- who takes the board holds the rows that are there, and nothing is in doubt any more
pub taken_holds : (under count : ℕ) (w : World) → IsFresh w → count ≤ length w.rows → length w.rows ≤ count + 1 → is_done under w ≡ true → IsHolding (w.revision + 1) false count (after_txn (take_txn under) w)
taken_holds under count w fresh there most e = rw e (record {
  reached = omega arith;
  now = omega arith;
  own = λ p. refl;
  rows = there;
  base = λ p. false_true true p refl;
  most = λ p. most;
  late = all_map (λ t. t.fence ≤ w.fence) (IsLate (w.revision + 1) false count) (λ t l. inl (omega (arith, l, fresh.now))) w.late fresh.late;
})

-- who has the board puts a row behind the others
pub put_holds : (fence count : ℕ) (body : List ℕ) (w : World) → IsHolding fence false count w → is_done fence w ≡ true → HasPut fence count body w (after_txn (put_txn fence count body) w)
put_holds fence count body w holds e =
    let ours = holds.own (done_under fence w e) in
    rw e (record {
      holding = record {
        reached = holds.reached;
        now = omega (arith, holds.now);
        own = holds.own;
        rows = omega (arith, put_most count body w.rows holds.rows (holds.most ours));
        base = λ p. false_true w.ours p ours;
        most = λ p. omega (arith, put_most count body w.rows holds.rows (holds.most ours));
        late = all_map (IsLate fence false count) (IsLate fence false (count + 1)) older w.late holds.late;
      };
      more = put_last count body w.rows holds.rows;
      own = ours;
    })
  where
    older : (t : TxnData) → IsLate fence false count t → IsLate fence false (count + 1) t
    older t (inl l) = inl l
    older t (inr p) = absurd p.1

-- who finds its own key knows its revision
pub found_holds : (fence : ℕ) (doubt : Bool) (count : ℕ) (w : World) → IsHolding fence doubt count w → w.ours ≡ true → IsHolding w.fence doubt count w
found_holds fence doubt count w holds ours = record {
  reached = omega arith;
  now = holds.now;
  own = λ p. ours;
  rows = holds.rows;
  base = holds.base;
  most = holds.most;
  late = all_map (IsLate fence doubt count) (IsLate w.fence doubt count) newer w.late holds.late;
}
  where
    newer : (t : TxnData) → IsLate fence doubt count t → IsLate w.fence doubt count t
    newer t (inl l) = inl (omega (arith, l, holds.reached))
    newer t (inr p) = go (cases_lt t.fence w.fence)
      where
        go : (t.fence < w.fence) ⊎ (w.fence ≤ t.fence) → IsLate w.fence doubt count t
        go (inl l) = inl l
        go (inr l) = inr (omega (arith, l, p.0, holds.reached), p.1)
