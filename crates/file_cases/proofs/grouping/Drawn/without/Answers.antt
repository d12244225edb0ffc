use Rattle.file_cases.proofs.GroupingLemmas.{keys_without}
use Rattle.file_cases.proofs.grouping.Drawn.without.Goals as goal

pub invariant_of-result : goal.invariant_of-result
invariant_of-result c = record {
  are_fresh = c.in_ok-remove.ensures.fresh;
  same = keys_without c.args.self.groups.conductors c.remove-2.new.self.conductors c.args.self.keys c.remove.new.self c.args.key c.args.self.same
      c.in_ok-remove.ensures.ok c.remove.ensures.updates.0;
}
