use Rattle.std.proofs.Common.{◌≤◌, ◌+◌, ℕ, Contains, rules, subst, IsTrue, true}
use Rattle.std.specs.BTreeSet.{contains, Updates}
use Rattle.touch_index.specs.declared.spans.Mark.{Mark}
use Rattle.touch_index.specs.steps.Marks.{by_mark}
use Rattle.touch_index.specs.steps.Spans.{mark_of}
use Rattle.touch_index.proofs.MarkLemmas.{more_marked, only_marked}
use Rattle.touch_index.proofs.spans.SpanSet.enter.Goals as goal

pub returns-clause-entered : goal.returns-clause-entered
returns-clause-entered c = record {
  known = subst (λ (w : ℕ). Contains c.learn.new.widths.items w) c.width_of.ensures.same c.in_ok-learn.ensures.learned;
  long = subst (λ (w : ℕ). c.args.span.to ≤ c.args.span.from + w) c.width_of.ensures.same c.width_of.ensures.long;
  fits = search rules;
  marked = subst (λ (m : Mark). IsTrue (contains by_mark c.insert.new.self m)) c.mark_of.ensures c.in_ok-insert.ensures.updates.1;
}

pub returns-clause-kept : goal.returns-clause-kept
returns-clause-kept c = λ s k h. record {
  known = c.in_ok-learn.ensures.kept _ h.known;
  long = h.long;
  fits = h.fits;
  marked = more_marked c.args.self.now.marks c.insert.new.self c.mark_of.result (mark_of s k) c.in_ok-insert.ensures.updates h.marked;
}

pub returns-clause-only : goal.returns-clause-only
returns-clause-only c = λ m h.
    only_marked c.args.self.now.marks c.insert.new.self (mark_of c.args.span c.args.key) m
    (subst (λ (n : Mark). Updates by_mark c.args.self.now.marks c.insert.new.self n true) c.mark_of.ensures c.in_ok-insert.ensures.updates) h
