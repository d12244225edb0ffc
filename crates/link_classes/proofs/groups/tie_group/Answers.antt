use Rattle.std.proofs.Common.{rules, sym}
use Rattle.std.specs.Map.{lookup}
use Rattle.link_classes.specs.steps.GroupPlaces.{group_place, same_group}
use Rattle.link_classes.proofs.FirstPlaceLemmas.{AddsKey-from_written}
use Rattle.link_classes.proofs.GroupLemmas.{same_group-Decides}
use Rattle.link_classes.proofs.groups.tie_group.Goals as goal

pub returns-in-Vacant-clause-first : goal.returns-in-Vacant-clause-first
returns-in-Vacant-clause-first c =
    let updates = rw c.in-Vacant.is at c.in_ok-found.ensures.update in
    let map = sym (rw c.in-Vacant.is at c.in_ok-found.ensures.same_map) in
    AddsKey-from_written same_group same_group-Decides c.args.group c.args.place (group_place c.args.first.now) (λ es q. lookup (same_group q) es) _ _ c.insert.result.now
    (λ q. (updates.0 c.insert.result.now).0 q) c.insert.ensures.value (search rules) (search (rules, map))
