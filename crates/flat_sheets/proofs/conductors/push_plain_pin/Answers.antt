use Rattle.std.proofs.Common.{◌++◌, ◌∷◌, [], Option, length, ap, sym, subst, ◌∙◌}
use Rattle.flat_rows.specs.Conductors.{FlatConductor}
use Rattle.flat_rows.specs.Rows.{IsPartOf, conductor_of, plain_conductor}
use Rattle.flat_rows.specs.declared.rows.FlatRow.{FlatRow}
use Rattle.flat_rows.specs.declared.rows.RowMember.{RowMember}
use Rattle.flat_sheets.specs.steps.PartRoles.{pin_row}
use Rattle.flat_sheets.proofs.PartLemmas.{pin_has_part, plain_pin_is}
use Rattle.flat_sheets.proofs.conductors.push_plain_pin.Goals as goal

pub push_plain-requires : goal.push_plain-requires
push_plain-requires c =
    let count = length c.args.rows.now.parts in
    subst (λ (m : Option RowMember). IsPartOf count m) (sym c.row_member-member.ensures) (pin_has_part count c.args.pin c.args.role.now.part c.requires.part)

pub returns-clause-drawn : goal.returns-clause-drawn
returns-clause-drawn c =
    let parts = c.args.rows.now.parts in
    let role = c.args.role.now in
    let pin = c.args.pin in
    let all = λ (d : FlatConductor). c.args.rows.now.drawn ++ d ∷ [] in
    c.in_ok-push_plain.ensures.drawn
    ∙ ap (λ (r : FlatRow). all (conductor_of parts (plain_conductor r c.row_member-member.result))) c.pin_row-row.ensures
    ∙ ap (λ (m : Option RowMember). all (conductor_of parts (plain_conductor (pin_row c.args.place c.args.id role pin) m))) c.row_member-member.ensures
    ∙ ap all (plain_pin_is parts c.args.place c.args.id role pin c.requires.plain)
