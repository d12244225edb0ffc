use Rattle.std.proofs.Common.{◌≡◌, ◌∙◌, true, ap}
use Rattle.attr_rules.specs.FirstValues.{first_values}
use Rattle.component_checks.proofs.SoundLemmas.{sound_by}
use Rattle.component_checks.proofs.sound_symbols.take_in_alone.Goals as goal

pub returns : goal.returns
returns c = λ p has are.
    let o = c.args.object.now in
    let own = c.of_texts-own.result in
    let own_is : own ≡ first_values o.attrs = c.of_texts-own.ensures ∙ ap first_values (c.as_slice.ensures.texts ∙ ap (λ o. o.attrs) c.object.view_is) in
    let none : c.are_none.result ≡ true = let h = c.if-not-are_none.false in cc in
    let plain : c.is_plain.result ≡ true = let h = c.if-not-is_plain.false in cc in
    c.in_ok-add_sound.ensures p
    (sound_by p o c.args.component.now own c.args.values.now c.args.faults has c.requires own_is (c.is_plain.ensures plain) (c.are_none.ensures none)) are
