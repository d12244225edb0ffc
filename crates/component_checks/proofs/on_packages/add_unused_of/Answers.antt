use Rattle.std.proofs.Common.{◌∙◌, ◌++◌, ◌+◌, ◌-◌, ◌<◌, ℕ, List, Some, append_assoc, rules, ap, sym}
use Rattle.std.specs.List.{flat_map, range_with_len}
use Rattle.text_tallies.proofs.ListLemmas.{range_first}
use Rattle.component_checks.specs.steps.SlotRows.{unused_in}
use Rattle.component_checks.proofs.on_packages.add_unused_of.Goals as goal

pub loop-place-preserved : goal.loop-place-preserved
loop-place-preserved c =
    let place = c.loop-place.place in
    let count = c.unwrap_or-count.result in
    let unused = unused_in (Some c.args.slots.now) c.args.refdes.now in
    let inside : place < count = search rules in
    rw c.in_ok-add_if_unused.ensures
    (append_assoc c.loop-place.found.items (unused (place + 1)) (flat_map unused (range_with_len (place + 1 + 1) (count - (place + 1))))
    ∙ ap (λ (ns : List ℕ). c.loop-place.found.items ++ flat_map unused ns) (sym (range_first place count inside))
    ∙ c.loop-place.invariant)
