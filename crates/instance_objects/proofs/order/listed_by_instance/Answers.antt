use Rattle.std.proofs.Common.{rules, sym, subst, ◌∙◌}
use Rattle.std.specs.List.Sorted.{IsStrictlySortedBy}
use Rattle.std.specs.Ordering.{nat_cmp}
use Rattle.instance_objects.specs.Occurrences.{by_occurrence}
use Rattle.instance_objects.proofs.OrderLemmas.{ids_rise, none_rise}
use Rattle.instance_objects.proofs.order.listed_by_instance.Goals as goal

pub loop-place-init : goal.loop-place-init
loop-place-init c = record {
  listed = search rules;
  order = λ _. none_rise by_occurrence c.new-occurrences.result.items c.new-occurrences.ensures.items;
}

pub push_instance-requires-clause-rising : goal.push_instance-requires-clause-rising
push_instance-requires-clause-rising c =
    let sheet = c.index-instances-place.result.sheet in
    subst (IsStrictlySortedBy nat_cmp) (sym (c.ids_at-ids.ensures ∙ c.in_ok-table.ensures sheet)) (ids_rise c.args.project.now.contents sheet)
