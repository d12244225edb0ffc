-- What the calls of a store leave to an owner.
use Rattle.std.proofs.Common.{zero, suc, slice_get, arith, ◌≡◌, ◌∙◌, ◌+◌, ◌<◌, ◌≤◌, ◌++◌, ◌∷◌, [], inr, ℕ, List, Bool, true, false, Option, None, Some, refl, sym, ap, subst, take, IfSome, Ok, Err}
use Rattle.engine_core.specs.Calls.{Asks, Elapses, OfTold, TellsPut, TellsTaking, TellsOwner, TellsRow, take_txn, put_txn}
use Rattle.engine_core.specs.Worlds.{TxnData, World, after_txn, with_late}
use Rattle.engine_core.specs.declared.engine.EngineFault.{EngineFault}
use Rattle.engine_core.specs.declared.engine.EngineFault.TheVariants as faults
use Rattle.engine_core.specs.declared.engine.Owner.{Owner}
use Rattle.engine_core.specs.declared.engine.Taken.{Taken}
use Rattle.std.specs.Prelude.{Result}
use Rattle.engine_board.specs.Holding.{IsHolding, IsLate}
use Rattle.std.proofs.lemmas.Option.{slice_get_past}
use Rattle.std.proofs.lemmas.List.{length-take-le}
use Rattle.engine_board.specs.Holds.{AddsRow, HoldsBoard, KeepsRows, ShowsRow}
use Rattle.engine_board.specs.steps.Stays.{HasPut, Stays, StaysLost}
use Rattle.engine_board.specs.steps.Turns.{Finds, FindsOwn, Renews, Sends, Tries}
use Rattle.engine_board.specs.declared.hold.Hold.{Hold}
use Rattle.engine_board.proofs.HoldingLemmas.{done_under, doubts, elapses_keeps, found_holds, fresh_of, false_true, late_keeps, put_holds, stays_then, taken_holds}

-- what cannot have been lost was owned
was_own : (a b : Bool) → (a ≡ false → b ≡ false) → b ≡ true → a ≡ true
was_own true b lost own = refl
was_own false b lost own = false_true b (lost refl) own

-- from what a call tells of worlds that are told
pub of_told : (P : World → Type 0) (R S : World → World → Type 0) → ((w v : World) → P w → R w v → S w v) → (old new : Option World) → IfSome old P → OfTold R old new → OfTold S old new
of_told P R S f None None p r = tt
of_told P R S f None (Some v) p r = r
of_told P R S f (Some w) None p r = r
of_told P R S f (Some w) (Some v) p r = f w v p r

-- of a call without an answer
asked : (fence : ℕ) (count : ℕ) (t : TxnData) (w v : World) (e : EngineFault) → IsHolding fence true count w → IsLate fence true count t → Asks t w v e → Stays fence true count w v
asked fence count t w v faults.NoAnswer holds late asks =
    let first = late_keeps fence true count t w holds late in
    stays_then fence true count w (with_late t w) v first (elapses_keeps fence true count (with_late t w) v first.holding asks)
asked fence count t w v faults.NoMemory holds late asks = elapses_keeps fence true count w v holds asks

pub take_failed : (fence count : ℕ) (e : EngineFault) (w v : World) → IsHolding fence true count w → TellsTaking fence w v (Err e) → Stays fence true count w v
take_failed fence count e w v holds takes = asked fence count (take_txn fence) w v e holds (inr (refl, tt)) takes

pub take_refused : (fence count : ℕ) (w v : World) → IsHolding fence true count w → TellsTaking fence w v (Ok None) → Stays fence true count w v
take_refused fence count w v holds takes =
    let first = elapses_keeps fence true count w takes.at holds takes.before in
    let stood : after_txn (take_txn fence) takes.at ≡ takes.at = rw takes.told refl in
    stays_then fence true count w takes.at v first (elapses_keeps fence true count takes.at v first.holding (subst (λ u. Elapses u v) stood takes.after))

pub take_done : (fence count : ℕ) (taken : Taken) (w v : World) → IsHolding fence true count w → TellsTaking fence w v (Ok (Some taken)) → Stays taken.fence false count w v
take_done fence count taken w v holds takes =
    let first = elapses_keeps fence true count w takes.at holds takes.before in
    let held = first.holding in
    let ours = held.own (done_under fence takes.at takes.told.done) in
    let anew : IsHolding taken.fence false count (after_txn (take_txn fence) takes.at) = subst (λ f. IsHolding f false count (after_txn (take_txn fence) takes.at)) (sym takes.told.fence) (taken_holds fence count takes.at (fresh_of fence true count takes.at held) held.rows (held.most ours) takes.told.done) in
    let rest = elapses_keeps taken.fence false count (after_txn (take_txn fence) takes.at) v anew takes.after in
    let stood : take count (after_txn (take_txn fence) takes.at).rows ≡ take count takes.at.rows = rw takes.told.done refl in
    record { holding = rest.holding; same = rest.same ∙ stood ∙ first.same; lost = λ e. false_true takes.at.ours (first.lost e) ours }

pub find_failed : (fence count : ℕ) (e : EngineFault) (w v : World) → IsHolding fence true count w → TellsOwner w v (Err e) → Stays fence true count w v
find_failed fence count e w v holds tells = elapses_keeps fence true count w v holds tells

pub find_done : (fence count : ℕ) (owner : Owner) (w v : World) → IsHolding fence true count w → owner.ours ≡ true → TellsOwner w v (Ok owner) → Stays owner.fence true count w v
find_done fence count owner w v holds ours tells =
    let first = elapses_keeps fence true count w tells.at holds tells.before in
    let anew : IsHolding owner.fence true count tells.at = subst (λ f. IsHolding f true count tells.at) (sym tells.told.fence) (found_holds fence true count tells.at first.holding (sym tells.told.ours ∙ ours)) in
    let rest = elapses_keeps owner.fence true count tells.at v anew tells.after in
    record { holding = rest.holding; same = rest.same ∙ first.same; lost = λ e. rest.lost (first.lost e) }

pub find_refused : (fence count : ℕ) (owner : Owner) (w v : World) → IsHolding fence true count w → owner.ours ≡ false → TellsOwner w v (Ok owner) → StaysLost fence true count w v
find_refused fence count owner w v holds others tells =
    let first = elapses_keeps fence true count w tells.at holds tells.before in
    let rest = elapses_keeps fence true count tells.at v first.holding tells.after in
    record {
      stays = stays_then fence true count w tells.at v first rest;
      others = rest.lost (sym tells.told.ours ∙ others);
    }

pub put_failed : (fence count : ℕ) (body : List ℕ) (e : EngineFault) (w v : World) → IsHolding fence false count w → TellsPut fence count body w v (Err e) → Stays fence true count w v
put_failed fence count body e w v holds puts = asked fence count (put_txn fence count body) w v e (doubts fence false count w holds) (inr (refl, refl)) puts

pub put_refused : (fence count : ℕ) (body : List ℕ) (w v : World) → IsHolding fence false count w → TellsPut fence count body w v (Ok false) → Stays fence true count w v
put_refused fence count body w v holds puts =
    let wide = doubts fence false count w holds in
    let first = elapses_keeps fence true count w puts.at wide puts.before in
    let stood : after_txn (put_txn fence count body) puts.at ≡ puts.at = rw (sym puts.told) refl in
    stays_then fence true count w puts.at v first (elapses_keeps fence true count puts.at v first.holding (subst (λ u. Elapses u v) stood puts.after))

pub put_done : (fence count : ℕ) (body : List ℕ) (w v : World) → IsHolding fence false count w → TellsPut fence count body w v (Ok true) → HasPut fence count body w v
put_done fence count body w v holds puts =
    let first = elapses_keeps fence false count w puts.at holds puts.before in
    let has = put_holds fence count body puts.at first.holding (sym puts.told) in
    let rest = elapses_keeps fence false (count + 1) (after_txn (put_txn fence count body) puts.at) v has.holding puts.after in
    record { holding = rest.holding; more = rest.same ∙ has.more ∙ ap (λ rs. rs ++ body ∷ []) first.same; own = was_own w.ours puts.at.ours first.lost has.own }

pub renew_of : (fence count : ℕ) (r : Result (Option Taken) EngineFault) (w v : World) → IsHolding fence true count w → TellsTaking fence w v r → Renews fence count w v r
renew_of fence count (Ok (Some taken)) w v holds takes = take_done fence count taken w v holds takes
renew_of fence count (Ok None) w v holds takes = take_refused fence count w v holds takes
renew_of fence count (Err e) w v holds takes = take_failed fence count e w v holds takes

pub find_of : (fence count : ℕ) (r : Result Owner EngineFault) (w v : World) → IsHolding fence true count w → TellsOwner w v r → Finds fence count w v r
find_of fence count (Err e) w v holds tells = find_failed fence count e w v holds tells
find_of fence count (Ok owner) w v holds tells = go owner.ours refl
  where
    go : (b : Bool) → owner.ours ≡ b → FindsOwn fence count w v owner.fence b
    go true e = find_done fence count owner w v holds e tells
    go false e = find_refused fence count owner w v holds e tells

pub send_of : (fence count : ℕ) (body : List ℕ) (r : Result Bool EngineFault) (w v : World) → IsHolding fence false count w → TellsPut fence count body w v r → Sends fence count body w v r
send_of fence count body (Ok true) w v holds puts = put_done fence count body w v holds puts
send_of fence count body (Ok false) w v holds puts = put_refused fence count body w v holds puts
send_of fence count body (Err e) w v holds puts = put_failed fence count body e w v holds puts

pub told_then : (R S T : World → World → Type 0) → ((u w v : World) → R u w → S w v → T u v) → (a b c : Option World) → OfTold R a b → OfTold S b c → OfTold T a c
told_then R S T f None None None r s = tt
told_then R S T f None None (Some v) r s = s
told_then R S T f None (Some w) c r s = absurd r
told_then R S T f (Some u) None c r s = absurd r
told_then R S T f (Some u) (Some w) None r s = s
told_then R S T f (Some u) (Some w) (Some v) r s = f u w v r s

pub told_if : (R : World → World → Type 0) (P : World → Type 0) → ((w v : World) → R w v → P v) → (a b : Option World) → OfTold R a b → IfSome b P
told_if R P f None None r = tt
told_if R P f None (Some v) r = absurd r
told_if R P f (Some w) None r = absurd r
told_if R P f (Some w) (Some v) r = f w v r

pub keeps_then : (a b c : Hold) (u w v : World) → KeepsRows a b u w → KeepsRows b c w v → KeepsRows a c u v
keeps_then a b c u w v first rest = record {
  held = rest.held;
  count = rest.count ∙ first.count;
  same = subst (λ n. take n v.rows ≡ take n w.rows) first.count rest.same ∙ first.same;
  lost = λ e. rest.lost (first.lost e);
}

pub adds_then : (a b c : Hold) (body : List ℕ) (u w v : World) → KeepsRows a b u w → AddsRow b c body w v → AddsRow a c body u v
adds_then a b c body u w v first rest = record {
  held = rest.held;
  count = rest.count ∙ ap (λ n. n + 1) first.count;
  more = rest.more ∙ ap (λ rs. rs ++ body ∷ []) (subst (λ n. take n w.rows ≡ take a.count u.rows) (sym first.count) first.same);
  own = was_own u.ours w.ours first.lost rest.own;
}

pub tries_then : (a b c : Hold) (body : List ℕ) (r : Result Bool EngineFault) (u w v : World) → KeepsRows a b u w → Tries b c body w v r → Tries a c body u v r
tries_then a b c body (Ok true) u w v first rest = adds_then a b c body u w v first rest
tries_then a b c body (Ok false) u w v first rest = keeps_then a b c u w v first rest
tries_then a b c body (Err e) u w v first rest = keeps_then a b c u w v first rest

pub keeps_itself : (h : Hold) (a : Option World) → IfSome a (HoldsBoard h) → OfTold (KeepsRows h h) a a
keeps_itself h None held = tt
keeps_itself h (Some w) held = record { held = held; count = refl; same = refl; lost = λ e. e }

get_take : (n i : ℕ) (rows : List (List ℕ)) → i < n → slice_get (take n rows) i ≡ slice_get rows i
get_take zero i rows below = absurd (omega (arith, below))
get_take (suc n) i [] below = refl
get_take (suc n) zero (r ∷ rs) below = refl
get_take (suc n) (suc i) (r ∷ rs) below = get_take n i rs (omega (arith, below))

keeps_of : (hold : Hold) (w v : World) → HoldsBoard hold w → Stays hold.fence hold.doubt hold.count w v → KeepsRows hold hold w v
keeps_of hold w v held stays = record {
  held = record { holding = stays.holding; lost = λ e. stays.lost (held.lost e) };
  count = refl;
  same = stays.same;
  lost = stays.lost;
}

pub row_of : (hold : Hold) (serial : ℕ) (r : Result (Option (List ℕ)) EngineFault) → serial < hold.count → (w v : World) → HoldsBoard hold w → TellsRow serial w v r → ShowsRow hold serial r w v
row_of hold serial (Ok row) below w v held tells =
    let first = elapses_keeps hold.fence hold.doubt hold.count w tells.at held.holding tells.before in
    let rest = elapses_keeps hold.fence hold.doubt hold.count tells.at v first.holding tells.after in
    record {
      keeps = keeps_of hold w v held (stays_then hold.fence hold.doubt hold.count w tells.at v first rest);
      row = tells.told ∙ sym (get_take hold.count serial tells.at.rows below) ∙ ap (λ rs. slice_get rs serial) first.same;
    }
row_of hold serial (Err e) below w v held tells = record { keeps = keeps_of hold w v held (elapses_keeps hold.fence hold.doubt hold.count w v held.holding tells); row = tt }

pub no_row : (hold : Hold) (serial : ℕ) (a : Option World) → IfSome a (HoldsBoard hold) → hold.count ≤ serial → OfTold (ShowsRow hold serial (Ok None)) a a
no_row hold serial None held above = tt
no_row hold serial (Some w) held above = record {
  keeps = record { held = held; count = refl; same = refl; lost = λ e. e };
  row = sym (slice_get_past (take hold.count w.rows) serial (omega (arith, length-take-le hold.count w.rows held.holding.rows, above)));
}
