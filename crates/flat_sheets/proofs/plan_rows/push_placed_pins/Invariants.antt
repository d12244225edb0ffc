use Rattle.std.proofs.Common.{◌≡◌, ◌++◌, drop}
use Rattle.std.specs.List.{flat_map}
use Rattle.flat_sheets.specs.steps.ObjectContents.{drawn_pin, hidden_pin}
use Rattle.flat_sheets.specs.steps.PartRoles.{role_in}
use Rattle.flat_sheets.proofs.plan_rows.push_placed_pins.Given as goal

abbrev pub invariant-loop-pin : goal.invariant-loop-pin
invariant-loop-pin l = record {
  parts : l.rows.parts ≡ l.fn.rows.parts;
  drawn :
      l.rows.drawn ++ flat_map (drawn_pin l.place l.id (role_in l.fn.rows.parts l.role)) (drop l.pin-index l.pins)
      ≡ l.fn.rows.drawn ++ flat_map (drawn_pin l.place l.id (role_in l.fn.rows.parts l.role)) l.pins;
  hidden :
      l.rows.hidden ++ flat_map (hidden_pin l.place l.id (role_in l.fn.rows.parts l.role)) (drop l.pin-index l.pins)
      ≡ l.fn.rows.hidden ++ flat_map (hidden_pin l.place l.id (role_in l.fn.rows.parts l.role)) l.pins;
}
