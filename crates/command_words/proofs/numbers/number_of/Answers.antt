use Rattle.std.proofs.Common.{◌≡◌, ◌∙◌, true, sym, ap}
use Rattle.command_words.specs.Commands.{is_number}
use Rattle.command_words.proofs.NumberLemmas.{none_of, read, refused, some_of}
use Rattle.command_words.proofs.numbers.number_of.Goals as goal

pub returns-in-Ok : goal.returns-in-Ok
returns-in-Ok c =
    let is : is_number c.args.word.now ≡ true = ap is_number (sym c.as_bytes.ensures.value) ∙ sym c.if-not-is_number.ensures in
    c.at_most.ensures ∙ some_of c.args.most c.args.word.now c.in-Ok.number is (read c.args.word.now c.parse.result c.in-Ok.number c.parse.ensures.value.0 c.in-Ok.is)

pub returns-in-Err : goal.returns-in-Err
returns-in-Err c =
    let is : is_number c.args.word.now ≡ true = ap is_number (sym c.as_bytes.ensures.value) ∙ sym c.if-not-is_number.ensures in
    none_of c.args.most c.args.word.now c.ranges.most.fits is (refused c.args.word.now c.parse.result c.in-Err.field-0 c.parse.ensures.value.0 c.in-Err.is)
