use Rattle.std.proofs.Common.{◌≡◌, ◌++◌, drop, map}
use Rattle.instance_objects.specs.steps.SheetIds.{occurrence}
use Rattle.instance_objects.proofs.order.push_ids.Given as goal

abbrev pub invariant-loop-id : goal.invariant-loop-id
invariant-loop-id l =
    l.listed.items ++ map (occurrence l.place l.instance) (drop l.id-index l.ids)
    ≡ l.fn.listed.items ++ map (occurrence l.place l.instance) l.ids
