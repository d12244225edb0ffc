use Rattle.std.proofs.Common.{◌≡◌, ◌∙◌, true, subst, sym}
use Rattle.std.specs.Prelude.{All}
use Rattle.geda_model.specs.Names.{IsLineByte}
use Rattle.drc_rules.proofs.SpellingLemmas.{pin_line, pin_stays}
use Rattle.drc_rules.proofs.pin_spelling.spelled_pin.Goals as goal

pub line_of-requires : goal.line_of-requires
line_of-requires c =
    let one : c.stays_in_word.result ≡ true = let h = c.if-not-stays_in_word.false in cc in
    let other : c.stays_in_word-2.result ≡ true = let h = c.if-not-stays_in_word-2.false in cc in
    let first = sym c.stays_in_word.ensures ∙ one in
    let second = sym c.stays_in_word-2.ensures ∙ other in
    subst (All IsLineByte) (sym (c.as_str.ensures.value ∙ c.in_ok-spell.ensures)) (pin_line c.args.refdes.now c.args.number.now first second)

pub returns : goal.returns
returns c =
    let one : c.stays_in_word.result ≡ true = let h = c.if-not-stays_in_word.false in cc in
    let other : c.stays_in_word-2.result ≡ true = let h = c.if-not-stays_in_word-2.false in cc in
    let first = sym c.stays_in_word.ensures ∙ one in
    let second = sym c.stays_in_word-2.ensures ∙ other in
    c.in_ok-line.ensures ∙ (c.as_str.ensures.value ∙ c.in_ok-spell.ensures) ∙ pin_stays c.args.refdes.now c.args.number.now first second
