use Rattle.std.proofs.Common.{sym, refl, ◌∙◌, ◌<◌, length, arith}
use Rattle.std.specs.Char.{is_ascii_digit}
use Rattle.std.proofs.lemmas.List.{take_rest}
use Rattle.std.proofs.lemmas.List.Folds.{list_all_more}
use Rattle.geda_text.proofs.CuttingDigits.{digits_at_end, digits_before_blank}
use Rattle.geda_text.proofs.Digits.{one_digit}
use Rattle.geda_text.proofs.pieces.cut_digits.Goals as goal

pub overflow_mul-value : goal.overflow_mul-value
overflow_mul-value c =
    let inv = c.loop-count.invariant in
    let few : c.loop-count.count < 9 = omega (arith, inv.4, c.if-count-eq9.false) in
    let d = one_digit c.args.bytes.now c.loop-count.count c.loop-count.value c.loop-count-test.true few c.in-Some-digit_of.ensures.0 inv.0 inv.1 in
    omega arith

pub overflow_add-value : goal.overflow_add-value
overflow_add-value c =
    let inv = c.loop-count.invariant in
    let few : c.loop-count.count < 9 = omega (arith, inv.4, c.if-count-eq9.false) in
    let d = one_digit c.args.bytes.now c.loop-count.count c.loop-count.value c.loop-count-test.true few c.in-Some-digit_of.ensures.0 inv.0 inv.1 in
    omega (arith, c.in-Some-digit_of.ensures.1)

pub loop-count-preserved : goal.loop-count-preserved
loop-count-preserved c =
    let inv = c.loop-count.invariant in
    let few : c.loop-count.count < 9 = omega (arith, inv.4, c.if-count-eq9.false) in
    let digit = c.in-Some-digit_of.ensures.0 in
    let d = one_digit c.args.bytes.now c.loop-count.count c.loop-count.value c.loop-count-test.true few digit inv.0 inv.1 in
    let plain = c.in-Some-digit_of.ensures.1 in
    (omega (arith, plain, d.low, d.next), omega (arith, plain, d.low, d.bound), rw (list_all_more is_ascii_digit c.args.bytes.now c.loop-count.count 0 c.loop-count-test.true, inv.2, digit) refl, omega (arith, c.loop-count-test.true), omega (arith, few))

pub returns-then-count-bytes : goal.returns-then-count-bytes
returns-then-count-bytes c =
    let inv = c.loop-count.invariant in
    digits_at_end c.args.bytes.now c.loop-count.count c.loop-count.value inv.3 (omega (arith, c.if-count-eq0.false)) inv.4 inv.2 inv.0 inv.1 c.if-count-bytes.true

pub bounds-bytes-count-2 : goal.bounds-bytes-count-2
bounds-bytes-count-2 c = omega (arith, c.loop-count.invariant.3, c.if-count-bytes.false)

pub returns : goal.returns
returns c =
    let inv = c.loop-count.invariant in
    let more : c.loop-count.count < length c.args.bytes.now = omega (arith, inv.3, c.if-count-bytes.false) in
    rw take_rest (digits_before_blank c.args.bytes.now c.loop-count.count c.loop-count.value inv.3 (omega (arith, c.if-count-eq0.false)) inv.4 inv.2 inv.0 inv.1 more (sym c.is_blank.ensures ∙ c.if-not-is_blank.false))
