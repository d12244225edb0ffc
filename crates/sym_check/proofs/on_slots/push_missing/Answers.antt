use Rattle.std.proofs.Common.{◌∙◌, ◌+◌, ◌-◌, ◌<◌, ◌++◌, ℕ, List, rules, ap, sym}
use Rattle.std.specs.List.{flat_map, range_with_len}
use Rattle.text_tallies.proofs.ListLemmas.{range_first}
use Rattle.sym_check.specs.steps.FoundBy.{missing_slotdef_by}
use Rattle.sym_check.proofs.ListLemmas.{flat_more}
use Rattle.sym_check.proofs.on_slots.push_missing.Goals as goal

pub loop-place-preserved : goal.loop-place-preserved
loop-place-preserved c =
    let place = c.loop-place.place in
    let count = c.args.count in
    let missing = missing_slotdef_by c.args.heads.now in
    let inside : place < count = search rules in
    rw c.in_ok-push_if_missing.ensures
    (flat_more c.loop-place.found.items missing (place + 1) (range_with_len (place + 1 + 1) (count - (place + 1)))
    ∙ ap (λ (ns : List ℕ). c.loop-place.found.items ++ flat_map missing ns) (sym (range_first place count inside))
    ∙ c.loop-place.invariant)
