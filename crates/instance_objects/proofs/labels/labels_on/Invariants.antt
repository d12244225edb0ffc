use Rattle.std.proofs.Common.{◌≡◌, ◌||◌, ℕ, List}
use Rattle.std.specs.HashSet.{contains_text}
use Rattle.std.specs.List.{filter_map, list_any}
use Rattle.std.specs.Str.{bytes_eq}
use Rattle.std.specs.Vec.Iter.{into_iter_items}
use Rattle.instance_objects.proofs.labels.labels_on.Given as goal

abbrev pub invariant-loop-pin : goal.invariant-loop-pin
invariant-loop-pin l = (text : List ℕ)
    → (contains_text l.labels text || list_any (bytes_eq text) (filter_map (λ pin. pin.label) (into_iter_items l.pin-iterator)))
    ≡ list_any (bytes_eq text) (filter_map (λ pin. pin.label) l.fn.pins.items)
