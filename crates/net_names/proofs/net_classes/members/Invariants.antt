use Rattle.std.proofs.Common.{◌-◌, length}
use Rattle.std.specs.Ordering.{eq_by_cmp}
use Rattle.net_names.specs.NetClasses.{by_member}
use Rattle.net_names.specs.steps.Classes.{pins_by}
use Rattle.net_names.proofs.PinLemmas.{NewsOn}
use Rattle.net_names.proofs.net_classes.members.Given as goal

abbrev pub invariant-loop-at : goal.invariant-loop-at
invariant-loop-at l = NewsOn (eq_by_cmp by_member) (pins_by l.ordered) l.ordered.places.items l.nexts l.head l.at l.last l.members.items

abbrev pub decreases-loop-at : goal.decreases-loop-at
decreases-loop-at l = length l.nexts - l.at
