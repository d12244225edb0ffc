use Rattle.std.proofs.Common.{◌≡◌, ◌∙◌, None, Some, rules, sym}
use Rattle.attr_table.specs.steps.Places.{firsts_at}
use Rattle.attr_table.proofs.PlaceLemmas.{no_value, value_there}
use Rattle.attr_table.proofs.places.value_of.Goals as goal

pub returns-in-Some : goal.returns-in-Some
returns-in-Some c =
    let name = c.args.name.now in
    let at : firsts_at c.args.firsts.now name ≡ Some c.in-Some.place = search rules in
    c.value_at.ensures ∙ value_there name c.args.texts.now c.in-Some.place (sym (c.requires name) ∙ at)

pub returns-in-None : goal.returns-in-None
returns-in-None c =
    let name = c.args.name.now in
    let at : firsts_at c.args.firsts.now name ≡ None = search rules in
    sym (no_value name c.args.texts.now (sym (c.requires name) ∙ at))
