use Rattle.std.proofs.Common.{◌≡◌, ◌++◌}
use Rattle.std.specs.List.{flat_map}
use Rattle.std.specs.Vec.Iter.{into_iter_items}
use Rattle.flat_sheets.specs.steps.ObjectContents.{drawn_pin, hidden_pin}
use Rattle.flat_sheets.specs.steps.PartRoles.{role_in}
use Rattle.flat_sheets.proofs.conductors.push_pins.Given as goal

abbrev pub invariant-loop-pin : goal.invariant-loop-pin
invariant-loop-pin l = record {
  parts : l.rows.parts ≡ l.fn.rows.parts;
  drawn :
      l.rows.drawn ++ flat_map (drawn_pin l.place l.id (role_in l.fn.rows.parts l.role)) (into_iter_items l.pin-iterator)
      ≡ l.fn.rows.drawn ++ flat_map (drawn_pin l.place l.id (role_in l.fn.rows.parts l.role)) l.fn.pins;
  hidden :
      l.rows.hidden ++ flat_map (hidden_pin l.place l.id (role_in l.fn.rows.parts l.role)) (into_iter_items l.pin-iterator)
      ≡ l.fn.rows.hidden ++ flat_map (hidden_pin l.place l.id (role_in l.fn.rows.parts l.role)) l.fn.pins;
}
