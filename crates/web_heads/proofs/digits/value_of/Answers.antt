use Rattle.std.proofs.Common.{arith}
use Rattle.web_heads.proofs.DigitLemmas.{one_digit}
use Rattle.web_heads.proofs.digits.value_of.Goals as goal

pub overflow_mul-value : goal.overflow_mul-value
overflow_mul-value c =
    let d = one_digit c.args.digits.now c.loop-byte.byte-index c.loop-byte.value c.loop-byte-test.true c.requires.short c.requires.digits c.loop-byte.invariant.0 c.loop-byte.invariant.1 in
    omega arith

pub overflow_add-value : goal.overflow_add-value
overflow_add-value c =
    let d = one_digit c.args.digits.now c.loop-byte.byte-index c.loop-byte.value c.loop-byte-test.true c.requires.short c.requires.digits c.loop-byte.invariant.0 c.loop-byte.invariant.1 in
    omega arith

pub loop-byte-preserved : goal.loop-byte-preserved
loop-byte-preserved c =
    let d = one_digit c.args.digits.now c.loop-byte.byte-index c.loop-byte.value c.loop-byte-test.true c.requires.short c.requires.digits c.loop-byte.invariant.0 c.loop-byte.invariant.1 in
    (rw c.from.ensures d.next, rw c.from.ensures d.bound)
