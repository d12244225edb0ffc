use Rattle.std.proofs.Common.{ap, subst, sym, false, ◌∙◌}
use Rattle.std.specs.BTreeSet.{Updates}
use Rattle.touch_index.specs.declared.spans.Mark.{Mark}
use Rattle.touch_index.specs.steps.Marks.{by_mark}
use Rattle.touch_index.specs.steps.Spans.{mark_of}
use Rattle.touch_index.proofs.MarkLemmas.{gone_marked, less_marked}
use Rattle.touch_index.proofs.spans.SpanSet.leave.Goals as goal

pub returns-clause-kept : goal.returns-clause-kept
returns-clause-kept c = λ s k apart h. record {
  known = h.known;
  long = h.long;
  fits = h.fits;
  marked = less_marked c.args.self.now.marks c.remove.new.self c.mark_of-mark.result (mark_of s k) c.remove.ensures.updates
      (λ e. apart (ap (λ m. m.key) (sym e ∙ c.mark_of-mark.ensures))) h.marked;
}

pub returns-clause-only : goal.returns-clause-only
returns-clause-only c = λ m h.
    gone_marked c.args.self.now.marks c.remove.new.self (mark_of c.args.span c.args.key) m
    (subst (λ (n : Mark). Updates by_mark c.args.self.now.marks c.remove.new.self n false) c.mark_of-mark.ensures c.remove.ensures.updates) h
