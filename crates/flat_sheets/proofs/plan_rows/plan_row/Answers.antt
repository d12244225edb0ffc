use Rattle.std.proofs.Common.{◌≡◌, ◌∙◌, Some, ap, sym}
use Rattle.geda_geom.specs.declared.conductor.Conductor.TheVariants.{End}
use Rattle.geda_geom.specs.declared.conductor.Point.{Point}
use Rattle.flat_rows.specs.declared.rows.FlatRow.{FlatRow}
use Rattle.pin_place.specs.declared.pins.PlacedPin.{PlacedPin}
use Rattle.pin_place.specs.Plans.{put_pin}
use Rattle.flat_sheets.specs.steps.PartRoles.{pin_row}
use Rattle.flat_sheets.proofs.plan_rows.plan_row.Goals as goal

pub returns : goal.returns
returns c =
    let pin = c.pin.inside in
    let end : Some pin.active ≡ c.args.pin.now.end = ap (λ (p : PlacedPin). p.end) c.pin.view_is in
    let row : Point → FlatRow = λ at. record {
      instance = c.args.place;
      key = record { id = c.args.id; place = pin.place };
      shape = Some (End at);
      directive = c.args.role.now.directive;
    } in
    ap row (c.end_under-at.ensures pin.active (sym end))
    ∙ ap (λ (p : PlacedPin). pin_row c.args.place c.args.id c.args.role.now (put_pin c.args.component.now p)) c.pin.view_is
