use Rattle.std.proofs.Common.{◌++◌, ◌∷◌, [], length, ap, sym, subst, ◌∙◌}
use Rattle.flat_rows.specs.Conductors.{FlatConductor}
use Rattle.flat_rows.specs.Rows.{IsPartOf, conductor_of}
use Rattle.flat_rows.specs.declared.rows.NewConductor.{NewConductor}
use Rattle.flat_sheets.proofs.PartLemmas.{new_pin_is, pin_has_part}
use Rattle.flat_sheets.proofs.conductors.push_hidden_pin.Goals as goal

pub push_hidden-requires : goal.push_hidden-requires
push_hidden-requires c =
    let count = length c.args.rows.now.parts in
    subst (λ (d : NewConductor). IsPartOf count d.member) (sym c.in_ok-conductor.ensures) (pin_has_part count c.args.pin c.args.role.now.part c.requires)

pub returns-clause-hidden : goal.returns-clause-hidden
returns-clause-hidden c =
    let parts = c.args.rows.now.parts in
    let all = λ (d : FlatConductor). c.args.rows.now.hidden ++ d ∷ [] in
    c.in_ok-push_hidden.ensures.hidden
    ∙ ap (λ (d : NewConductor). all (conductor_of parts d)) c.in_ok-conductor.ensures
    ∙ ap all (new_pin_is parts c.args.place c.args.id c.args.role.now c.args.pin)
