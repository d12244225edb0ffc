use Rattle.touch_index.proofs.DrawnLemmas.{adds_both, adds_first, adds_one, adds_second}
use Rattle.touch_index.proofs.grid.enter_along.Goals as goal

pub returns-then-a-b-clause-only : goal.returns-then-a-b-clause-only
returns-then-a-b-clause-only c =
    adds_one c.args.a c.args.b c.args.key c.between.result c.args.strips.now c.enter.new.self c.if-a-b.true c.between.ensures c.enter.ensures.only

pub returns-in_err-enter-clause-only : goal.returns-in_err-enter-clause-only
returns-in_err-enter-clause-only c =
    adds_first c.args.a c.args.b c.args.key c.between-2.result c.args.strips.now c.enter-2.new.self c.if-a-b.false c.between-2.ensures c.enter-2.ensures.only

pub returns-clause-only : goal.returns-clause-only
returns-clause-only c =
    adds_both c.args.a c.args.b c.args.key c.args.strips.now c.enter-2.new.self c.enter-3.new.self
    (adds_first c.args.a c.args.b c.args.key c.between-2.result c.args.strips.now c.enter-2.new.self c.if-a-b.false c.between-2.ensures c.enter-2.ensures.only)
    (adds_second c.args.a c.args.b c.args.key c.between-3.result c.enter-2.new.self c.enter-3.new.self c.if-a-b.false c.between-3.ensures c.enter-3.ensures.only)

pub returns-clause-kept : goal.returns-clause-kept
returns-clause-kept c = λ s k h. c.enter-3.ensures.kept s k (c.enter-2.ensures.kept s k h)
