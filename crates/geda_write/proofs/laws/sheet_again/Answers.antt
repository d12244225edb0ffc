use Rattle.std.proofs.Common.{ap, subst}
use Rattle.geda_model.specs.Sheets.{SheetIsInRange}
use Rattle.geda_grammar.specs.Canonical.{sheet_text}
use Rattle.geda_grammar.proofs.ReadingLaws.{sheet_alone}
use Rattle.geda_grammar.proofs.WritingLaws as writing
use Rattle.geda_write.proofs.Spelled.{sheet_spelled}
use Rattle.geda_write.proofs.laws.sheet_again.Goals as goal

pub returns-clause-fits : goal.returns-clause-fits
returns-clause-fits c = λ h.
    let sheet = c.args.sheet.now in
    let in_range = subst SheetIsInRange c.sheet.view_is c.sheet.invariant in
    sheet_alone (sheet_text sheet) sheet (writing.sheet_again sheet (record { in_range = in_range; few = h.few; each = h.each; size = h.size }))

pub returns-clause-spelled : goal.returns-clause-spelled
returns-clause-spelled c = λ bytes h size.
    let sheet = c.args.sheet.now in
    let in_range = subst SheetIsInRange c.sheet.view_is c.sheet.invariant in
    let kept = sheet_spelled bytes sheet h in
    sheet_alone (sheet_text sheet) sheet (writing.sheet_again sheet (record { in_range = in_range; few = kept.0; each = kept.1; size = size }))

pub returns-clause-one : goal.returns-clause-one
returns-clause-one c = λ bytes other h k. ap sheet_text ((sheet_alone bytes c.args.sheet.now h).alone other k)
