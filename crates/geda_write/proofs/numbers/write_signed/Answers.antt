use Rattle.std.proofs.Common.{◌≡◌, ℕ, ◌+◌, ◌-◌, ◌≤◌, ◌++◌, List, ap, drop, length, arith, to_z-of_z}
use Rattle.std.specs.Fmt.{decimal}
use Rattle.std.proofs.lemmas.Fmt.{length-decimal-le}
use Rattle.std.proofs.lemmas.List.{drop-set}
use Rattle.itoa.proofs.Decimal.{minus_first}
use Rattle.geda_write.proofs.numbers.write_signed.Goals as goal

pub write_digits-start-requires : goal.write_digits-start-requires
write_digits-start-requires c =
    let few : length (decimal c.from.result) ≤ 10 = length-decimal-le 10 c.from.result (omega arith) (omega arith) (omega arith) in
    (omega (arith, few), c.requires.1)

pub returns-then-number-ge0-clause-start : goal.returns-then-number-ge0-clause-start
returns-then-number-ge0-clause-start c =
    let few : length (decimal c.from.result) ≤ 10 = length-decimal-le 10 c.from.result (omega arith) (omega arith) (omega arith) in
    let start = c.write_digits-start.ensures.start in
    (omega (arith, few, start), omega (arith, start))

pub overflow_sub-bytes : goal.overflow_sub-bytes
overflow_sub-bytes c =
    let few : length (decimal c.from.result) ≤ 10 = length-decimal-le 10 c.from.result (omega arith) (omega arith) (omega arith) in
    omega (arith, few, c.write_digits-start.ensures.start)

pub overflow_sub-result : goal.overflow_sub-result
overflow_sub-result c =
    let few : length (decimal c.from.result) ≤ 10 = length-decimal-le 10 c.from.result (omega arith) (omega arith) (omega arith) in
    omega (arith, few, c.write_digits-start.ensures.start)

pub returns-clause-start : goal.returns-clause-start
returns-clause-start c =
    let few : length (decimal c.from.result) ≤ 10 = length-decimal-le 10 c.from.result (omega arith) (omega arith) (omega arith) in
    let start = c.write_digits-start.ensures.start in
    (omega (arith, few, start), omega (arith, start))

pub returns-clause-written : goal.returns-clause-written
returns-clause-written c =
    let w = c.write_digits-start in
    let few : length (decimal c.from.result) ≤ 10 = length-decimal-le 10 c.from.result (omega arith) (omega arith) (omega arith) in
    let e : w.result - 1 + 1 ≡ w.result = omega (arith, few, w.ensures.start) in
    let back = to_z-of_z c.ranges.number in
    rw (drop-set w.new.buf (w.result - 1) 45 (omega (arith, few, w.ensures.start)), e, w.ensures.written, c.from.ensures, c.unsigned_abs.ensures.value, back)
    (ap (λ (ds : List ℕ). ds ++ drop c.args.end c.args.bytes.now) (minus_first c.args.number (rw back at c.if-number-ge0.false)))
