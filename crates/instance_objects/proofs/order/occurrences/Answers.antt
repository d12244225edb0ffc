use Rattle.std.proofs.Common.{ap, sym, ◌∙◌}
use Rattle.geda_defs.specs.Order.{once_in_order}
use Rattle.instance_objects.specs.Occurrences.{by_occurrence, occurrences_from}
use Rattle.instance_objects.proofs.OrderLemmas.{by_occurrence_total, once_of_rising}
use Rattle.instance_objects.proofs.order.occurrences.Goals as goal

pub returns-then-is_in_order : goal.returns-then-is_in_order
returns-then-is_in_order c =
    let listed = c.in_ok-listed.listed.occurrences.items in
    sym (once_of_rising by_occurrence_total listed (c.in_ok-listed.ensures.order c.if-is_in_order.true))
    ∙ ap (once_in_order by_occurrence) (c.in_ok-listed.ensures.all ∙ ap (occurrences_from c.args.project.now.contents 0) c.requires)
