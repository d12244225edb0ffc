use Rattle.std.proofs.Common.{◌≡◌, ◌∙◌, ◌++◌, List, map, ap, sym}
use Rattle.std.specs.List.{flat_map}
use Rattle.std.proofs.lemmas.List.{append_assoc}
use Rattle.std.proofs.lemmas.List.Concat.{flat_map-append}
use Rattle.pin_place.specs.declared.pins.PlacedPin.{PlacedPin}
use Rattle.pin_place.specs.Plans.{put_pin}
use Rattle.net_list.specs.declared.package.Package.{Package}
use Rattle.flat_rows.specs.Conductors.{FlatConductor}
use Rattle.flat_sheets.specs.steps.ObjectContents.{drawn_pin, hidden_pin}
use Rattle.flat_sheets.specs.steps.PartRoles.{role_in}
use Rattle.flat_sheets.proofs.plan_rows.push_plan.Goals as goal

pub returns-clause-drawn : goal.returns-clause-drawn
returns-clause-drawn c =
    let old = c.args.rows.now in
    let role = c.args.role.now in
    let pins = λ (parts : List Package) (ps : List PlacedPin). flat_map (drawn_pin c.args.place c.args.id (role_in parts role)) ps in
    let first = map (put_pin c.args.component.now) c.args.plan.now.drawn.items in
    let last = c.args.plan.now.hidden.items in
    let put : c.push_plan_pins.new.rows.drawn ≡ old.drawn ++ pins old.parts first = c.in_ok-push_plan_pins.ensures.drawn
    ∙ ap (λ (ps : List PlacedPin). old.drawn ++ pins old.parts (map (put_pin c.args.component.now) ps)) c.as_slice.ensures.value in
    c.in_ok-push_placed_pins.ensures.drawn
    ∙ ap (λ (ps : List PlacedPin). c.push_plan_pins.new.rows.drawn ++ pins c.push_plan_pins.new.rows.parts ps) c.as_slice-2.ensures.value
    ∙ ap (λ (parts : List Package). c.push_plan_pins.new.rows.drawn ++ pins parts last) c.in_ok-push_plan_pins.ensures.parts
    ∙ ap (λ (ds : List FlatConductor). ds ++ pins old.parts last) put
    ∙ append_assoc old.drawn (pins old.parts first) (pins old.parts last)
    ∙ ap (λ (ds : List FlatConductor). old.drawn ++ ds) (sym (flat_map-append (drawn_pin c.args.place c.args.id (role_in old.parts role)) first last))

pub returns-clause-hidden : goal.returns-clause-hidden
returns-clause-hidden c =
    let old = c.args.rows.now in
    let role = c.args.role.now in
    let pins = λ (parts : List Package) (ps : List PlacedPin). flat_map (hidden_pin c.args.place c.args.id (role_in parts role)) ps in
    let first = map (put_pin c.args.component.now) c.args.plan.now.drawn.items in
    let last = c.args.plan.now.hidden.items in
    let put : c.push_plan_pins.new.rows.hidden ≡ old.hidden ++ pins old.parts first = c.in_ok-push_plan_pins.ensures.hidden
    ∙ ap (λ (ps : List PlacedPin). old.hidden ++ pins old.parts (map (put_pin c.args.component.now) ps)) c.as_slice.ensures.value in
    c.in_ok-push_placed_pins.ensures.hidden
    ∙ ap (λ (ps : List PlacedPin). c.push_plan_pins.new.rows.hidden ++ pins c.push_plan_pins.new.rows.parts ps) c.as_slice-2.ensures.value
    ∙ ap (λ (parts : List Package). c.push_plan_pins.new.rows.hidden ++ pins parts last) c.in_ok-push_plan_pins.ensures.parts
    ∙ ap (λ (ds : List FlatConductor). ds ++ pins old.parts last) put
    ∙ append_assoc old.hidden (pins old.parts first) (pins old.parts last)
    ∙ ap (λ (ds : List FlatConductor). old.hidden ++ ds) (sym (flat_map-append (hidden_pin c.args.place c.args.id (role_in old.parts role)) first last))
