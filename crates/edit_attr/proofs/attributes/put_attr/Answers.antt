use Rattle.std.proofs.Common.{◌≡◌, ◌∙◌, ◌++◌, ◌∷◌, [], ℕ, List, get_or, sym, ap}
use Rattle.std.specs.Prelude.{slice_set}
use Rattle.geda_model.specs.Data.{TextData}
use Rattle.edit_attr.specs.Attributes.{attr_line, new_label, with_content}
use Rattle.edit_attr.proofs.PlaceLemmas.{place_within, set_last, set_there}
use Rattle.edit_attr.proofs.attributes.put_attr.Goals as goal

pub put_content-requires-clause-place : goal.put_content-requires-clause-place
put_content-requires-clause-place c =
    place_within c.args.name.now c.args.texts.now.items c.in-Some.place (sym c.requires.place ∙ c.in-Some.is)

pub returns-in-Some : goal.returns-in-Some
returns-in-Some c =
    let texts = c.args.texts.now.items in
    let name = c.args.name.now in
    let content = attr_line name c.args.value.now in
    let at = c.args.at in
    let place = c.in-Some.place in
    let none : TextData = new_label name at in
    let line : c.as_str.result.now ≡ content = c.as_str.ensures.value ∙ c.in_ok-line.ensures in
    c.in_ok-put_content-in-Some.ensures none
    ∙ ap (λ (l : List ℕ). slice_set texts place (with_content l (get_or texts place none))) line
    ∙ set_there name content at texts place none (sym c.requires.place ∙ c.in-Some.is)

pub returns : goal.returns
returns c =
    let texts = c.args.texts.now.items in
    let name = c.args.name.now in
    let content = attr_line name c.args.value.now in
    let at = c.args.at in
    let line : c.as_str-in-None.result.now ≡ content = c.as_str-in-None.ensures.value ∙ c.in_ok-line.ensures in
    let label : c.in_ok-new_label-in-None.field-0 ≡ new_label content at = c.in_ok-new_label-in-None.ensures ∙ ap (λ (l : List ℕ). new_label l at) line in
    c.in_ok-push-in-None.ensures.items
    ∙ ap (λ (t : TextData). texts ++ t ∷ []) label
    ∙ set_last name content at texts (sym c.requires.place ∙ c.in-None.is)
