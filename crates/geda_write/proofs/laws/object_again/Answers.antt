use Rattle.std.proofs.Common.{ap, subst}
use Rattle.geda_model.specs.Sheets.{ObjectIsInRange}
use Rattle.geda_grammar.specs.Canonical.{object_text}
use Rattle.geda_grammar.proofs.ReadingLaws.{object_alone}
use Rattle.geda_grammar.proofs.WritingLaws as writing
use Rattle.geda_write.proofs.Spelled.{object_spelled}
use Rattle.geda_write.proofs.laws.object_again.Goals as goal

pub returns-clause-fits : goal.returns-clause-fits
returns-clause-fits c = λ h.
    let object = c.args.object.now in
    let in_range = subst ObjectIsInRange c.object.view_is c.object.invariant in
    object_alone (object_text object) object (writing.object_again object (record { in_range = in_range; each = h.each; size = h.size }))

pub returns-clause-spelled : goal.returns-clause-spelled
returns-clause-spelled c = λ bytes h size.
    let object = c.args.object.now in
    let in_range = subst ObjectIsInRange c.object.view_is c.object.invariant in
    let kept = object_spelled bytes object h in
    object_alone (object_text object) object (writing.object_again object (record { in_range = in_range; each = kept; size = size }))

pub returns-clause-one : goal.returns-clause-one
returns-clause-one c = λ bytes other h k. ap object_text ((object_alone bytes c.args.object.now h).alone other k)
