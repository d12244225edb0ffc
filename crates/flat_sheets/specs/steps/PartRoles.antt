-- Steps of the code; no public clause cites them.
-- Roles of components by the places of their parts, and pins as they are put into rows.
use Rattle.std.specs.Prelude.{◌≡◌, ℕ, ◌<◌, false, List, [], Option, None, Some, option_map}
use Rattle.attr_rules.specs.declared.kinds.PinKind.{PinKind}
use Rattle.geda_geom.specs.declared.conductor.Conductor.{Conductor}
use Rattle.geda_geom.specs.declared.conductor.Conductor.TheVariants.{End}
use Rattle.pin_place.specs.declared.pins.PlacedPin.{PlacedPin}
use Rattle.net_list.specs.declared.package.Package.{Package}
use Rattle.flat_rows.specs.Conductors.{FlatConductor}
use Rattle.flat_rows.specs.Rows.{refdes_at}
use Rattle.flat_rows.specs.declared.rows.FlatRow.{FlatRow}
use Rattle.flat_rows.specs.declared.rows.NewConductor.{NewConductor}
use Rattle.flat_rows.specs.declared.rows.RowMember.{RowMember}
use Rattle.flat_sheets.specs.Conductors.{RoleData, pins_below}
use Rattle.flat_sheets.specs.declared.conductors.PartRole.{PartRole}

-- the place, if there is one, is below the count
abbrev pub IsPlaceOf : ℕ → Option ℕ → Type 0
IsPlaceOf count None = Unit {0}
IsPlaceOf count (Some place) = place < count

-- the role of a component, of which the part has its place among these
abbrev pub role_in : List Package → PartRole → RoleData
role_in parts r = record {
  refdes = option_map (refdes_at parts) r.part;
  leads_down = r.leads_down;
  leads_up = r.leads_up;
  directive = r.directive;
}

-- a pin with this number and of this kind, as one of the part at a place
abbrev pub member_at : List ℕ → PinKind → ℕ → RowMember
member_at number kind part = record { pin = number; part = part; kind = kind }

-- the pin as one of the part at a place
abbrev pub row_member : PlacedPin → ℕ → RowMember
row_member pin part = record { pin = pin.number; part = part; kind = pin.kind }

-- a pin of a component in this role
abbrev pub new_pin : ℕ → ℕ → PartRole → PlacedPin → NewConductor
new_pin place id role pin = record {
  instance = place;
  key = record { id = id; place = pin.place };
  shape = option_map End pin.end;
  global_names = pin.nets;
  drawn_names = [];
  member = option_map (row_member pin) role.part;
  leads_down = pins_below place id role.leads_down pin.label;
  leads_up = role.leads_up;
  directive = role.directive;
}

-- what a row keeps of it
abbrev pub pin_row : ℕ → ℕ → PartRole → PlacedPin → FlatRow
pin_row place id role pin = record {
  instance = place;
  key = record { id = id; place = pin.place };
  shape = option_map End pin.end;
  directive = role.directive;
}

-- its pins have no ports
pub record HasNoPorts (role : PartRole) : Type 0 where
  pub down : role.leads_down ≡ false
  pub up : role.leads_up ≡ None

-- it has neither names nor ports
pub record IsPlainPin (role : PartRole) (pin : PlacedPin) : Type 0 where
  pub down : role.leads_down ≡ false
  pub up : role.leads_up ≡ None
  pub nets : pin.nets ≡ []

-- a segment with these names
abbrev pub segment_with : ℕ → ℕ → Conductor → List (List ℕ) → FlatConductor
segment_with place id segment names = record {
  instance = place;
  key = record { id = id; place = 0 };
  shape = Some segment;
  global_names = [];
  drawn_names = names;
  member = None;
  leads_down = None;
  leads_up = None;
  directive = false;
}
