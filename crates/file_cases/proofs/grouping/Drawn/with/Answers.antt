use Rattle.file_cases.proofs.GroupingLemmas.{keys_with}
use Rattle.file_cases.proofs.grouping.Drawn.with.Goals as goal

pub invariant_of-result : goal.invariant_of-result
invariant_of-result c = record {
  are_fresh = c.in_ok-insert-2.ensures.fresh;
  same = keys_with c.args.self.groups.conductors c.insert-2.new.self.conductors c.args.self.keys c.insert.new.self c.args.key c.args.self.same
      c.new.result c.in_ok-insert-2.ensures.ok c.in_ok-insert.ensures.updates.0;
}
