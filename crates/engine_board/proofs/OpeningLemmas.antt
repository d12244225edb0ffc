-- A board that is taken, and one that is lost.
use Rattle.std.proofs.Common.{◌≡◌, ◌∙◌, ◌+◌, ◌<◌, ◌≤◌, ◌∷◌, ◌⊎◌, [], inl, inr, ℕ, List, Bool, true, false, Option, None, Some, Ok, Err, refl, sym, subst, arith, length, take, slice_get, if◌then◌else◌}
use Rattle.std.specs.Prelude.{Result}
use Rattle.std.proofs.lemmas.Bool.{cases_lt}
use Rattle.engine_core.specs.Calls.{Asks, Elapses, TellsPut, TellsTaking, TellsOwner, take_txn}
use Rattle.engine_core.specs.Worlds.{TxnData, World, acted, after_txn, after_late, elapsed, happened, has_room, is_done, is_others, owned, with_late, with_other, with_row}
use Rattle.engine_core.specs.declared.engine.EngineFault.{EngineFault}
use Rattle.engine_core.specs.declared.engine.EngineFault.TheVariants as faults
use Rattle.engine_core.specs.declared.engine.Owner.{Owner}
use Rattle.engine_core.specs.declared.engine.Taken.{Taken}
use Rattle.engine_core.specs.declared.txns.Act.{Act}
use Rattle.engine_core.specs.declared.txns.Act.TheVariants as acts
use Rattle.engine_core.specs.declared.txns.Event.{Event}
use Rattle.engine_core.specs.declared.txns.Event.TheVariants as events
use Rattle.engine_core.proofs.Elapsing.{elapses_then}
use Rattle.engine_board.specs.Holding.{IsFresh, IsHolding, IsLate}
use Rattle.engine_board.specs.Openings.{StaysFresh}
use Rattle.engine_board.specs.steps.Stays.{IsLost}
use Rattle.engine_board.specs.steps.Taking.{MayTake, Opened, Opens}
use Rattle.engine_board.proofs.HoldingLemmas.{all_map, all_more, done_under, elapses_keeps, false_true, is_older, late_of, take_all, taken_holds}

fresh_itself : (w : World) → IsFresh w → StaysFresh w w
fresh_itself w fresh = record { fresh = fresh; later = omega arith }

fresh_owned : (ours : Bool) (w : World) → IsFresh w → StaysFresh w (owned ours w)
fresh_owned ours w fresh = record {
  fresh = record { now = omega arith; late = all_map (λ t. t.fence ≤ w.fence) (λ t. t.fence ≤ w.revision + 1) (λ t l. omega (arith, l, fresh.now)) w.late fresh.late };
  later = omega (arith, fresh.now);
}

fresh_row : (serial : ℕ) (body : List ℕ) (w : World) → IsFresh w → StaysFresh w (with_row serial body w)
fresh_row serial body w fresh = record { fresh = record { now = omega (arith, fresh.now); late = fresh.late }; later = omega arith }

fresh_other : (w : World) → IsFresh w → StaysFresh w (with_other w)
fresh_other w fresh = record { fresh = record { now = omega (arith, fresh.now); late = fresh.late }; later = omega arith }

fresh_acted : (act : Act) (w : World) → IsFresh w → StaysFresh w (acted act w)
fresh_acted acts.Take w fresh = fresh_owned true w fresh
fresh_acted (acts.Put serial body) w fresh = fresh_row serial body w fresh

fresh_if : (b : Bool) (u w : World) → IsFresh w → StaysFresh w u → StaysFresh w (if b then u else w)
fresh_if true u w fresh after = after
fresh_if false u w fresh after = fresh_itself w fresh

fresh_late : (o : Option TxnData) (w : World) → IsFresh w → StaysFresh w (after_late o w)
fresh_late None w fresh = fresh_itself w fresh
fresh_late (Some t) w fresh = fresh_if (is_done t.fence w) (acted t.act w) w fresh (fresh_acted t.act w fresh)

fresh_happened : (event : Event) (w : World) → IsFresh w → StaysFresh w (happened event w)
fresh_happened (events.Late place) w fresh = fresh_late (slice_get w.late place) w fresh
fresh_happened events.Taken w fresh = fresh_if (has_room w) (owned false w) w fresh (fresh_owned false w fresh)
fresh_happened (events.Wrote serial body) w fresh = fresh_if (is_others serial w) (with_row serial body w) w fresh (fresh_row serial body w fresh)
fresh_happened events.Other w fresh = fresh_if (has_room w) (with_other w) w fresh (fresh_other w fresh)

fresh_then : (u w v : World) → StaysFresh u w → StaysFresh w v → StaysFresh u v
fresh_then u w v first rest = record { fresh = rest.fresh; later = omega (arith, first.later, rest.later) }

fresh_elapsed : (es : List Event) (w : World) → IsFresh w → StaysFresh w (elapsed es w)
fresh_elapsed [] w fresh = fresh_itself w fresh
fresh_elapsed (event ∷ more) w fresh =
    let first = fresh_happened event w fresh in
    fresh_then w (happened event w) (elapsed more (happened event w)) first (fresh_elapsed more (happened event w) first.fresh)

pub fresh_elapses : (w v : World) → IsFresh w → Elapses w v → StaysFresh w v
fresh_elapses w v fresh e = subst (StaysFresh w) e.are (fresh_elapsed e.events w fresh)

fresh_asked : (t : TxnData) (e : EngineFault) (w v : World) → IsFresh w → t.fence ≤ w.fence → Asks t w v e → StaysFresh w v
fresh_asked t faults.NoAnswer w v fresh below asks =
    let with_it : IsFresh (with_late t w) = record { now = fresh.now; late = all_more (λ u. u.fence ≤ w.fence) w.late t fresh.late below } in
    let rest = fresh_elapses (with_late t w) v with_it asks in
    record { fresh = rest.fresh; later = rest.later }
fresh_asked t faults.NoMemory w v fresh below asks = fresh_elapses w v fresh asks

-- an owner that has lost the board does nothing any more
pub lost_does_nothing : (under : ℕ) (t : TxnData) (w : World) → IsLost under w → t.fence ≤ under → after_txn t w ≡ w
lost_does_nothing under t w lost below = go (is_done t.fence w) refl
  where
    go : (b : Bool) → is_done t.fence w ≡ b → (if b then acted t.act w else w) ≡ w
    go false e = refl
    go true e = absurd (omega (arith, below, lost.later, done_under t.fence w e))

lost_row : (under serial : ℕ) (body : List ℕ) (w : World) → IsLost under w → IsLost under (with_row serial body w)
lost_row under serial body w lost = record { later = lost.later; now = omega (arith, lost.now); others = lost.others; late = lost.late }

lost_other : (under : ℕ) (w : World) → IsLost under w → IsLost under (with_other w)
lost_other under w lost = record { later = lost.later; now = omega (arith, lost.now); others = lost.others; late = lost.late }

lost_owned : (under : ℕ) (w : World) → IsLost under w → IsLost under (owned false w)
lost_owned under w lost = record { later = omega (arith, lost.later, lost.now); now = omega arith; others = refl; late = lost.late }

lost_if : (under : ℕ) (b : Bool) (u w : World) → IsLost under w → IsLost under u → IsLost under (if b then u else w)
lost_if under true u w lost after = after
lost_if under false u w lost after = lost

lost_happened : (under : ℕ) (event : Event) (w : World) → IsLost under w → IsLost under (happened event w)
lost_happened under (events.Late place) w lost = go (slice_get w.late place) refl
  where
    go : (o : Option TxnData) → slice_get w.late place ≡ o → IsLost under (after_late o w)
    go None e = lost
    go (Some t) e = subst (IsLost under) (sym (lost_does_nothing under t w lost (late_of (λ u. u.fence ≤ under) w.late place t lost.late e))) lost
lost_happened under events.Taken w lost = lost_if under (has_room w) (owned false w) w lost (lost_owned under w lost)
lost_happened under (events.Wrote serial body) w lost = lost_if under (is_others serial w) (with_row serial body w) w lost (lost_row under serial body w lost)
lost_happened under events.Other w lost = lost_if under (has_room w) (with_other w) w lost (lost_other under w lost)

lost_elapsed : (under : ℕ) (es : List Event) (w : World) → IsLost under w → IsLost under (elapsed es w)
lost_elapsed under [] w lost = lost
lost_elapsed under (event ∷ more) w lost = lost_elapsed under more (happened event w) (lost_happened under event w lost)

-- and never does again
pub lost_elapses : (under : ℕ) (w v : World) → IsLost under w → Elapses w v → IsLost under v
lost_elapses under w v lost e = subst (IsLost under) e.are (lost_elapsed under e.events w lost)

-- no row of it is put
pub lost_puts_nothing : (under serial : ℕ) (body : List ℕ) (w v : World) → IsLost under w → TellsPut under serial body w v (Ok true) → ⊥
lost_puts_nothing under serial body w v lost puts =
    let then_ = lost_elapses under w puts.at lost puts.before in
    omega (arith, then_.later, done_under under puts.at (sym puts.told))

-- an owner whose board is another's has lost it
pub loses : (under : ℕ) (doubt : Bool) (count : ℕ) (w : World) → IsHolding under doubt count w → w.ours ≡ false → IsLost under w
loses under doubt count w holds others = record {
  later = go (cases_lt under w.fence);
  now = holds.now;
  others = others;
  late = all_map (IsLate under doubt count) (λ t. t.fence ≤ under) (λ t l. is_older under doubt count t l) w.late holds.late;
}
  where
    go : (under < w.fence) ⊎ (w.fence ≤ under) → under < w.fence
    go (inl l) = l
    go (inr l) = false_true w.ours others (holds.own (omega (arith, l, holds.reached)))

-- the board is taken
take_opens : (under : ℕ) (taken : Taken) (w v : World) → MayTake under w → TellsTaking under w v (Ok (Some taken)) → Opens taken w v
take_opens under taken w v may takes =
    let first = fresh_elapses w takes.at may.fresh takes.before in
    let rows = takes.at.rows in
    let all : taken.count ≡ length rows = takes.told.count in
    let anew : IsHolding taken.fence false taken.count (after_txn (take_txn under) takes.at) = subst (λ f. IsHolding f false taken.count (after_txn (take_txn under) takes.at)) (sym takes.told.fence) (taken_holds under taken.count takes.at first.fresh (omega (arith, all)) (omega (arith, all)) takes.told.done) in
    let rest = elapses_keeps taken.fence false taken.count (after_txn (take_txn under) takes.at) v anew takes.after in
    let stood : take taken.count (after_txn (take_txn under) takes.at).rows ≡ take taken.count rows = rw takes.told.done refl in
    record { at = takes.at; before = takes.before; count = all; same = rest.same ∙ stood ∙ take_all taken.count rows (omega (arith, all)); holding = rest.holding }

pub open_of : (under : ℕ) (r : Result (Option Taken) EngineFault) (w v : World) → MayTake under w → TellsTaking under w v r → Opened w v r
open_of under (Ok (Some taken)) w v may takes = take_opens under taken w v may takes
open_of under (Ok None) w v may takes =
    let first = fresh_elapses w takes.at may.fresh takes.before in
    let stood : after_txn (take_txn under) takes.at ≡ takes.at = rw takes.told refl in
    fresh_then w takes.at v first (fresh_elapses takes.at v first.fresh (subst (λ u. Elapses u v) stood takes.after))
open_of under (Err e) w v may takes = fresh_asked (take_txn under) e w v may.fresh may.reached takes

-- what is known once the owner's key was read
pub record HasRead (owner : Owner) (w v : World) : Type 0 where
  pub fresh : IsFresh w
  pub between : Elapses w v
  pub may : MayTake owner.fence v

pub reads_owner : (owner : Owner) (w v : World) → IsFresh w → TellsOwner w v (Ok owner) → HasRead owner w v
reads_owner owner w v fresh tells =
    let first = fresh_elapses w tells.at fresh tells.before in
    let rest = fresh_elapses tells.at v first.fresh tells.after in
    record { fresh = fresh; between = elapses_then w tells.at v tells.before tells.after; may = record { fresh = rest.fresh; reached = omega (arith, tells.told.fence, rest.later) } }

pub opened_after : (owner : Owner) (r : Result (Option Taken) EngineFault) (u w v : World) → HasRead owner u w → Opened w v r → Opened u v r
opened_after owner (Ok (Some taken)) u w v has opens = record { at = opens.at; before = elapses_then u w opens.at has.between opens.before; count = opens.count; same = opens.same; holding = opens.holding }
opened_after owner (Ok None) u w v has stays = fresh_then u w v (fresh_elapses u w has.fresh has.between) stays
opened_after owner (Err e) u w v has stays = fresh_then u w v (fresh_elapses u w has.fresh has.between) stays
