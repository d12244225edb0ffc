use Rattle.std.proofs.Common.{◌∙◌, refl}
use Rattle.instance_objects.specs.Occurrences.{occurrences}
use Rattle.flat_sheets.proofs.ObjectLemmas.{drawn_in-are, hidden_in-are, parts_in-are}
use Rattle.flat_sheets.proofs.project.flatten.Goals as goal

pub returns-clause-conductors : goal.returns-clause-conductors
returns-clause-conductors c =
    let p = c.args.objects.now in
    let drawn = c.in_ok-rows.ensures.drawn ∙ drawn_in-are p (occurrences p) in
    let hidden = c.in_ok-rows.ensures.hidden ∙ hidden_in-are p (occurrences p) in
    rw (c.in_ok-flat.ensures.conductors, drawn, hidden) refl

pub returns-clause-parts : goal.returns-clause-parts
returns-clause-parts c = c.in_ok-flat.ensures.parts ∙ c.in_ok-rows.ensures.parts ∙ parts_in-are c.args.objects.now (occurrences c.args.objects.now)
