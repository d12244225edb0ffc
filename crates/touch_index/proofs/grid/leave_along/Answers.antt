use Rattle.touch_index.proofs.DrawnLemmas.{loses_both, loses_one}
use Rattle.touch_index.proofs.grid.leave_along.Goals as goal

pub returns-then-a-b-clause-only : goal.returns-then-a-b-clause-only
returns-then-a-b-clause-only c =
    loses_one c.args.a c.args.b c.args.key c.between.result c.args.strips.now c.leave.new.self c.if-a-b.true c.between.ensures c.leave.ensures.only

pub returns-clause-only : goal.returns-clause-only
returns-clause-only c =
    loses_both c.args.a c.args.b c.args.key c.between-2.result c.between-3.result c.args.strips.now c.leave-2.new.self c.leave-3.new.self c.if-a-b.false
    c.between-2.ensures c.between-3.ensures c.leave-2.ensures.only c.leave-3.ensures.only

pub returns-clause-kept : goal.returns-clause-kept
returns-clause-kept c = λ s k apart h. c.leave-3.ensures.kept s k apart (c.leave-2.ensures.kept s k apart h)
