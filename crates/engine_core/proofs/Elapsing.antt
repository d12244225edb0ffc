-- Events, one after the other.
use Rattle.std.proofs.Common.{◌≡◌, ◌∙◌, ◌++◌, ◌∷◌, [], List, refl, ap}
use Rattle.engine_core.specs.Calls.{Elapses}
use Rattle.engine_core.specs.Worlds.{World, elapsed, happened}
use Rattle.engine_core.specs.declared.txns.Event.{Event}

pub nothing_elapses : (w : World) → Elapses w w
nothing_elapses w = record { events = []; are = refl }

pub elapsed-append : (es fs : List Event) (w : World) → elapsed (es ++ fs) w ≡ elapsed fs (elapsed es w)
elapsed-append [] fs w = refl
elapsed-append (e ∷ es) fs w = elapsed-append es fs (happened e w)

pub elapses_then : (u w v : World) → Elapses u w → Elapses w v → Elapses u v
elapses_then u w v first rest = record {
  events = first.events ++ rest.events;
  are = elapsed-append first.events rest.events u ∙ ap (elapsed rest.events) first.are ∙ rest.are;
}
