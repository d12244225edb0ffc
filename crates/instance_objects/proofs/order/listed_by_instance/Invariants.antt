use Rattle.std.proofs.Common.{◌≡◌, ◌++◌, drop, true}
use Rattle.std.specs.List.Sorted.{IsStrictlySortedBy}
use Rattle.instance_objects.specs.Occurrences.{by_occurrence, occurrences_from}
use Rattle.instance_objects.proofs.order.listed_by_instance.Given as goal

abbrev pub invariant-loop-place : goal.invariant-loop-place
invariant-loop-place l = record {
  listed : l.occurrences.items ++ occurrences_from l.project.contents l.place (drop l.place l.instances)
      ≡ occurrences_from l.project.contents 0 l.instances;
  order : l.is_in_order ≡ true → IsStrictlySortedBy by_occurrence l.occurrences.items;
}
