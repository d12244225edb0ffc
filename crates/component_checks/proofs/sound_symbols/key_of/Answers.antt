use Rattle.std.proofs.Common.{◌≡◌, ◌∙◌, ℕ, IfSome, List, None, Option, Some, ap, subst, sym, option_copied}
use Rattle.geda_model.specs.Shapes.{ComponentData}
use Rattle.attr_rules.specs.FirstValues.{ValuesData}
use Rattle.component_checks.specs.steps.SoundSymbols.{IsKey}
use Rattle.component_checks.proofs.sound_symbols.key_of.Goals as goal

pub returns-in-None : goal.returns-in-None
returns-in-None c =
    let name : c.as_str-basename.result.now ≡ c.args.component.now.basename = c.as_str-basename.ensures.text ∙ ap (λ (d : ComponentData). d.basename) c.component.view_is in
    let none : None ≡ c.args.values.now.slot = sym (ap option_copied c.in-None.is) ∙ ap (λ (v : ValuesData). v.slot) c.values.view_is in
    record { names = c.name_key.ensures.names ∙ name; slots = c.name_key.ensures.slots ∙ none }

pub returns-in-Some : goal.returns-in-Some
returns-in-Some c =
    let name : c.as_str-basename.result.now ≡ c.args.component.now.basename = c.as_str-basename.ensures.text ∙ ap (λ (d : ComponentData). d.basename) c.component.view_is in
    let some : Some c.in-Some.slot.now ≡ c.args.values.now.slot = sym (ap option_copied c.in-Some.is) ∙ ap (λ (v : ValuesData). v.slot) c.values.view_is in
    subst (λ (s : Option (List ℕ)). IfSome c.slot_key.result (λ key. IsKey c.args.component.now.basename s key)) some
    (subst (λ (n : List ℕ). IfSome c.slot_key.result (λ key. IsKey n (Some c.in-Some.slot.now) key)) name c.slot_key.ensures)
