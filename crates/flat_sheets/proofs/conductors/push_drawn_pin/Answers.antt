use Rattle.std.proofs.Common.{◌++◌, ◌∷◌, [], length, ap, sym, subst, ◌∙◌}
use Rattle.flat_rows.specs.Conductors.{FlatConductor}
use Rattle.flat_rows.specs.Rows.{IsPartOf, conductor_of}
use Rattle.flat_rows.specs.declared.rows.NewConductor.{NewConductor}
use Rattle.flat_sheets.proofs.PartLemmas.{new_pin_is, pin_has_part}
use Rattle.flat_sheets.proofs.conductors.push_drawn_pin.Goals as goal

pub push_drawn-requires : goal.push_drawn-requires
push_drawn-requires c =
    let count = length c.args.rows.now.parts in
    subst (λ (d : NewConductor). IsPartOf count d.member) (sym c.in_ok-conductor.ensures) (pin_has_part count c.args.pin c.args.role.now.part c.requires)

pub returns-clause-drawn : goal.returns-clause-drawn
returns-clause-drawn c =
    let parts = c.args.rows.now.parts in
    let all = λ (d : FlatConductor). c.args.rows.now.drawn ++ d ∷ [] in
    c.in_ok-push_drawn.ensures.drawn
    ∙ ap (λ (d : NewConductor). all (conductor_of parts d)) c.in_ok-conductor.ensures
    ∙ ap all (new_pin_is parts c.args.place c.args.id c.args.role.now c.args.pin)
