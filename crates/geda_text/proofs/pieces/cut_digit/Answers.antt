use Rattle.geda_text.proofs.CuttingDigits.{digit_at_end, digit_before_space}
use Rattle.geda_text.proofs.pieces.cut_digit.Goals as goal

pub returns-in_default : goal.returns-in_default
returns-in_default c = digit_at_end c.args.bytes.now c.in_ok-first.first.now c.in_ok-digit.digit c.in_ok-first.after.now c.in_ok-first.ensures.cases.0 c.in_default.ensures.cases c.in_ok-digit.ensures.0 c.in_ok-digit.ensures.1

pub returns : goal.returns
returns c = digit_before_space c.args.bytes.now c.in_ok-first.first.now c.in_ok-digit-2.digit c.in_ok-first.after.now c.in-Some.second.now c.in-Some.others.now c.in_ok-first.ensures.cases.0 c.in-Some.ensures.cases.0 c.if-second-ne32.false c.in_ok-digit-2.ensures.0 c.in_ok-digit-2.ensures.1
