use Rattle.std.proofs.Common.{rules, arith, ◌∙◌}
use Rattle.geda_text.proofs.Digits.{one_digit}
use Rattle.geda_text.proofs.number.natural.Goals as goal

pub overflow_mul-value : goal.overflow_mul-value
overflow_mul-value c =
    let d = one_digit c.args.field.now c.loop-byte.byte-index c.loop-byte.value c.loop-byte-test.true (omega arith) (search rules) c.loop-byte.invariant.0 c.loop-byte.invariant.1 in
    omega arith

pub overflow_add-value : goal.overflow_add-value
overflow_add-value c =
    let d = one_digit c.args.field.now c.loop-byte.byte-index c.loop-byte.value c.loop-byte-test.true (omega arith) (search rules) c.loop-byte.invariant.0 c.loop-byte.invariant.1 in
    omega arith

pub loop-byte-preserved : goal.loop-byte-preserved
loop-byte-preserved c =
    let d = one_digit c.args.field.now c.loop-byte.byte-index c.loop-byte.value c.loop-byte-test.true (omega arith) (search rules) c.loop-byte.invariant.0 c.loop-byte.invariant.1 in
    (rw c.from.ensures d.next, rw c.from.ensures d.bound, d.rest ∙ c.loop-byte.invariant.2)
