-- Events, one after the other.
use Rattle.std.proofs.Common.{◌≡◌, ◌∙◌, ◌++◌, ◌∷◌, [], ℕ, Bool, List, Option, Ok, Err, refl, sym, ap, subst}
use Rattle.engine_core.proofs.Elapsing.{elapses_then, nothing_elapses}
use Rattle.engine_core.specs.Calls.{Does, Elapses, TellsPut, TellsTaking}
use Rattle.engine_core.specs.Worlds.{TxnData, World, after_txn, elapsed, happened, with_late}
use Rattle.std.specs.Prelude.{IfErr, Result}
use Rattle.engine_core.specs.declared.engine.EngineFault.{EngineFault}
use Rattle.engine_core.specs.declared.engine.EngineFault.TheVariants as faults
use Rattle.engine_core.specs.declared.engine.Taken.{Taken}
use Rattle.engine_core.specs.declared.txns.Event.{Event}

elapsed_more : (es : List Event) (e : Event) (w : World) → elapsed (es ++ e ∷ []) w ≡ happened e (elapsed es w)
elapsed_more [] e w = refl
elapsed_more (d ∷ es) e w = elapsed_more es e (happened d w)

pub one_more_elapses : (e : Event) (u w v : World) → Elapses u w → v ≡ happened e w → Elapses u v
one_more_elapses e u w v before is = record {
  events = before.events ++ e ∷ [];
  are = elapsed_more before.events e u ∙ ap (happened e) before.are ∙ sym is;
}

pub same_elapses : (w v : World) → v ≡ w → Elapses w v
same_elapses w v is = record { events = []; are = sym is }

pub asked_elapses : (t : TxnData) (u w v : World) → w ≡ with_late t u → Elapses w v → Elapses (with_late t u) v
asked_elapses t u w v is elapses = subst (λ x. Elapses x v) is elapses

pub does_now : (t : TxnData) (Tells : World → Type 0) (w v : World) → Tells w → v ≡ after_txn t w → Does t w v Tells
does_now t Tells w v told is = record { at = w; before = nothing_elapses w; told = told; after = same_elapses (after_txn t w) v is }

pub takes_after : (fence : ℕ) (r : Result (Option Taken) EngineFault) (u w v : World) → Elapses u w → TellsTaking fence w v r → IfErr r (λ e. e ≡ faults.NoMemory) → TellsTaking fence u v r
takes_after fence (Ok answer) u w v first takes one = record { at = takes.at; before = elapses_then u w takes.at first takes.before; told = takes.told; after = takes.after }
takes_after fence (Err faults.NoMemory) u w v first takes one = elapses_then u w v first takes
takes_after fence (Err faults.NoAnswer) u w v first takes one = absurd (let e = one in cc)

pub puts_after : (fence serial : ℕ) (body : List ℕ) (r : Result Bool EngineFault) (u w v : World) → Elapses u w → TellsPut fence serial body w v r → IfErr r (λ e. e ≡ faults.NoMemory) → TellsPut fence serial body u v r
puts_after fence serial body (Ok answer) u w v first puts one = record { at = puts.at; before = elapses_then u w puts.at first puts.before; told = puts.told; after = puts.after }
puts_after fence serial body (Err faults.NoMemory) u w v first puts one = elapses_then u w v first puts
puts_after fence serial body (Err faults.NoAnswer) u w v first puts one = absurd (let e = one in cc)
