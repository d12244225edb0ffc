use Rattle.std.proofs.Common.{◌≡◌, ◌∙◌, None, Some, true, is_some, length, rules, sym, ap, subst}
use Rattle.edit_attr.specs.Attributes.{attr_line, new_label, attr_place}
use Rattle.edit_attr.proofs.PlaceLemmas.{set_last}
use Rattle.attr_table.specs.Cells.{can_be_set}
use Rattle.attr_table.specs.steps.Places.{firsts_at}
use Rattle.attr_table.proofs.PlaceLemmas.{Puts, good_line, label_named, more_places, same_places}
use Rattle.attr_table.proofs.cells.set_cell.Goals as goal

pub returns-in_ok-put_value-in-Some-clause-places : goal.returns-in_ok-put_value-in-Some-clause-places
returns-in_ok-put_value-in-Some-clause-places c = λ q.
    let name = c.cell.inside.name.now in
    let value = c.cell.inside.value.now in
    let texts = c.args.texts.now.items in
    let good : can_be_set (name, value) ≡ true = search rules in
    let at : firsts_at c.args.firsts.now name ≡ Some c.in-Some.place = search rules in
    c.requires.places q
    ∙ sym (ap (attr_place q) c.in_ok-put_value-in-Some.ensures ∙ same_places name value c.args.at texts c.in-Some.place q (good_line (name, value) good) (sym (c.requires.places name) ∙ at))

pub returns-in_ok-put_value-in-None-clause-places : goal.returns-in_ok-put_value-in-None-clause-places
returns-in_ok-put_value-in-None-clause-places c = λ q.
    let name = c.cell.inside.name.now in
    let value = c.cell.inside.value.now in
    let texts = c.args.texts.now.items in
    let line = attr_line name value in
    let label = new_label line c.args.at in
    let good : can_be_set (name, value) ≡ true = search rules in
    let at : firsts_at c.args.firsts.now name ≡ None = search rules in
    let put : Puts c.args.firsts.now c.insert.new.self name c.len.result = search rules in
    let count : c.len.result ≡ length texts = search rules in
    more_places texts label name c.args.firsts.now c.insert.new.self c.requires.places (λ r. label_named name value c.args.at r (good_line (name, value) good)) (ap is_some at)
    (subst (Puts c.args.firsts.now c.insert.new.self name) count put) q
    ∙ ap (attr_place q) (set_last name line c.args.at texts (sym (c.requires.places name) ∙ at) ∙ sym c.in_ok-put_value-in-None.ensures)
