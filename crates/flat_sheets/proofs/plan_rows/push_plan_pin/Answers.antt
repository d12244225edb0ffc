use Rattle.std.proofs.Common.{◌≡◌, ◌++◌, ◌∷◌, [], true, List, ℕ, Option, length, refl, ap, sym, subst, ◌∙◌}
use Rattle.std.specs.Option.{option_map}
use Rattle.std.proofs.lemmas.List.{append-nil}
use Rattle.pin_place.specs.declared.pins.PlacedPin.{PlacedPin}
use Rattle.pin_place.specs.Pins.{is_drawn}
use Rattle.pin_place.specs.Plans.{put_pin}
use Rattle.flat_rows.specs.Conductors.{FlatConductor}
use Rattle.flat_rows.specs.Rows.{IsPartOf, conductor_of, named_conductor}
use Rattle.flat_rows.specs.declared.rows.FlatRow.{FlatRow}
use Rattle.flat_rows.specs.declared.rows.RowMember.{RowMember}
use Rattle.flat_sheets.specs.steps.PartRoles.{member_at, pin_row, role_in, row_member}
use Rattle.flat_sheets.proofs.PartLemmas.{drawn_joins, drawn_not_hidden, named_pin_is, pin_has_part}
use Rattle.flat_sheets.proofs.plan_rows.push_plan_pin.Goals as goal

pub push_named-requires : goal.push_named-requires
push_named-requires c =
    let count = length c.args.rows.now.parts in
    let part = c.args.role.now.part in
    let member = c.in_ok-member.ensures ∙ ap (λ (p : PlacedPin). option_map (member_at p.number p.kind) part) c.pin.view_is in
    subst (λ (m : Option RowMember). IsPartOf count m) (sym member) (pin_has_part count (put_pin c.args.component.now c.args.pin.now) part c.requires.part)

pub returns-clause-drawn : goal.returns-clause-drawn
returns-clause-drawn c =
    let parts = c.args.rows.now.parts in
    let role = c.args.role.now in
    let pin = put_pin c.args.component.now c.args.pin.now in
    let member = c.in_ok-member.ensures ∙ ap (λ (p : PlacedPin). option_map (member_at p.number p.kind) role.part) c.pin.view_is in
    let names = c.as_slice.ensures ∙ ap (λ (p : PlacedPin). p.nets) c.pin.view_is in
    let drawn : is_drawn pin ≡ true = subst (λ (p : PlacedPin). is_drawn (put_pin c.args.component.now p) ≡ true) c.pin.view_is refl in
    let all = λ (d : FlatConductor). c.args.rows.now.drawn ++ d ∷ [] in
    c.in_ok-push_named.ensures.drawn
    ∙ ap (λ (r : FlatRow). all (conductor_of parts (named_conductor r c.in_ok-member.member c.as_slice.result.now))) c.plan_row-row.ensures
    ∙ ap (λ (m : Option RowMember). all (conductor_of parts (named_conductor (pin_row c.args.place c.args.id role pin) m c.as_slice.result.now))) member
    ∙ ap (λ (ns : List (List ℕ)). all (conductor_of parts (named_conductor (pin_row c.args.place c.args.id role pin) (option_map (row_member pin) role.part) ns))) names
    ∙ ap all (named_pin_is parts c.args.place c.args.id role pin c.requires.ports)
    ∙ ap (λ (ds : List FlatConductor). c.args.rows.now.drawn ++ ds) (sym (drawn_joins c.args.place c.args.id (role_in parts role) pin drawn))

pub returns-clause-hidden : goal.returns-clause-hidden
returns-clause-hidden c =
    let pin = put_pin c.args.component.now c.args.pin.now in
    let drawn : is_drawn pin ≡ true = subst (λ (p : PlacedPin). is_drawn (put_pin c.args.component.now p) ≡ true) c.pin.view_is refl in
    let hidden = c.args.rows.now.hidden in
    c.in_ok-push_named.ensures.hidden ∙ sym (ap (λ (ds : List FlatConductor). hidden ++ ds) (drawn_not_hidden c.args.place c.args.id (role_in c.args.rows.now.parts c.args.role.now) pin drawn) ∙ append-nil hidden)
