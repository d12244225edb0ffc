-- What joins in a project (own, after the active ends of gEDA pins).
use Rattle.std.specs.Prelude.{ℕ, Bool, false, not, if◌then◌else◌, List, [], ◌∷◌, ◌++◌, Option, Some, None, map, filter, is_some, option_map, codes}
use Rattle.std.specs.List.{flat_map}
use Rattle.geda_model.specs.declared.shape.Shape.TheVariants as shapes
use Rattle.geda_model.specs.declared.object.Body.{Body}
use Rattle.geda_model.specs.declared.object.Body.TheVariants as bodies
use Rattle.geda_model.specs.Sheets.{SymbolData}
use Rattle.project_model.specs.Projects.{ProjectData}
use Rattle.attr_rules.specs.Attributes.{attached}
use Rattle.attr_rules.specs.Components.{has_sources, is_directive, refdes_of}
use Rattle.attr_rules.specs.Libraries.{library_of}
use Rattle.geda_geom.specs.declared.conductor.Point.{Point}
use Rattle.geda_geom.specs.declared.conductor.Conductor.TheVariants.{Segment, End}
use Rattle.pin_place.specs.declared.pins.PlacedPin.{PlacedPin}
use Rattle.pin_place.specs.SymbolPins.{point}
use Rattle.pin_place.specs.Pins.{is_drawn, pins_of}
use Rattle.net_list.specs.declared.member.Member.{Member}
use Rattle.flat_rows.specs.Conductors.{FlatConductor}
use Rattle.flat_rows.specs.declared.conductors.PortPins.{PortPins}
use Rattle.instance_objects.specs.Occurrences.{FlatObject, flat_objects}
use Rattle.instance_objects.specs.Texts.{under}
use Rattle.flat_sheets.specs.Ports.{pins_at, pins_above}
use Rattle.flat_sheets.specs.ListedParts.{refdes_in}

-- what a component is in an instance: its printed refdes if it is a listed part, whether it leads
-- down to sheets below, the pins above for which it stands if it is a port, and whether it is a
-- no-connection directive
pub record RoleData : Type 0 where
  pub refdes : Option (List ℕ)
  pub leads_down : Bool
  pub leads_up : Option PortPins
  pub directive : Bool

-- the role of a component with a library symbol
abbrev pub role_of : ProjectData → FlatObject → Option SymbolData → RoleData
role_of p f library = record {
  refdes = refdes_in p f.instance f.object library;
  leads_down = has_sources f.object library;
  leads_up = pins_above p f.instance f.object library (refdes_of f.object library);
  directive = is_directive f.object library;
}

-- the pin as a member under a printed refdes
abbrev pub member_under : PlacedPin → List ℕ → Member
member_under pin refdes = record { refdes = refdes; pin = pin.number; kind = pin.kind }

-- the pins of its label, for a pin of a component that leads down
abbrev pub pins_below : ℕ → ℕ → Bool → Option (List ℕ) → Option PortPins
pins_below place id leads_down None = None
pins_below place id leads_down (Some label) =
    if leads_down then pins_at (Some place) (Some id) label else None

-- a pin of a component in this role
abbrev pub pin_conductor : ℕ → ℕ → RoleData → PlacedPin → FlatConductor
pin_conductor place id role pin = record {
  instance = place;
  key = record { id = id; place = pin.place };
  shape = option_map End pin.end;
  global_names = pin.nets;
  drawn_names = [];
  member = option_map (member_under pin) role.refdes;
  leads_down = pins_below place id role.leads_down pin.label;
  leads_up = role.leads_up;
  directive = role.directive;
}

-- a segment with these names
abbrev pub segment_conductor : ℕ → ℕ → List (List ℕ) → Point → Point → FlatConductor
segment_conductor place id names a b = record {
  instance = place;
  key = record { id = id; place = 0 };
  shape = Some (Segment a b);
  global_names = [];
  drawn_names = names;
  member = None;
  leads_down = None;
  leads_up = None;
  directive = false;
}

-- the drawn pins of a component
abbrev pub drawn_pins : ProjectData → FlatObject → Option SymbolData → List FlatConductor
drawn_pins p f library =
    map (pin_conductor f.place f.id (role_of p f library))
    (filter is_drawn (pins_of f.object library))

-- what is drawn of an object: a segment with its `netname`s, or the drawn pins of a component; no
-- other shape joins, no bus and no pin drawn on the sheet
abbrev pub drawn_of : ProjectData → FlatObject → List FlatConductor
drawn_of p f = of_body f.object.body
  where
    of_body : Body → List FlatConductor
    of_body (bodies.Shape (shapes.Net x1 y1 x2 y2 color)) =
        segment_conductor f.place f.id
        (map (under f.instance.path) (attached f.object (codes "netname")))
        (point x1 y1) (point x2 y2) ∷ []
    of_body (bodies.Shape other) = []
    of_body (bodies.Component c) = drawn_pins p f (library_of p f.object)

-- the hidden pins of a component in this role: one that is no listed part has none
abbrev pub hidden_pins : FlatObject → Option SymbolData → RoleData → List FlatConductor
hidden_pins f library role =
    if is_some role.refdes
    then map (pin_conductor f.place f.id role)
    (filter (λ pin. not (is_drawn pin)) (pins_of f.object library))
    else []

-- the hidden pins of an object
abbrev pub hidden_of : ProjectData → FlatObject → List FlatConductor
hidden_of p f = of_body f.object.body
  where
    of_body : Body → List FlatConductor
    of_body (bodies.Shape s) = []
    of_body (bodies.Component c) =
        hidden_pins f (library_of p f.object) (role_of p f (library_of p f.object))

-- all conductors of a project: first what is drawn, by route, id and place, then the hidden pins,
-- so that a drawn pin comes before a hidden one
abbrev pub conductors_of : ProjectData → List FlatConductor
conductors_of p =
    flat_map (drawn_of p) (flat_objects p) ++ flat_map (hidden_of p) (flat_objects p)
