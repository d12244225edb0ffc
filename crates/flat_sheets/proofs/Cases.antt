-- The definitions, evaluated on an object of a sheet below a component with one pin.
use Rattle.std.proofs.Common.{◌≡◌, ◌||◌, ◌&&◌, not, ℕ, Bool, pos, true, false, List, [], ◌∷◌, Option, Some, None, filter, map, refl, ap, ◌∙◌}
use Rattle.std.specs.Prelude.{codes, if◌then◌else◌}
use Rattle.std.specs.List.{list_any}
use Rattle.std.specs.FinMap as finite
use Rattle.std.specs.Ordering.{nat_cmp}
use Rattle.std.specs.Str.{bytes_eq, is_utf8, chars}
use lib.Utf8.{encode}
use Rattle.project_model.specs.declared.change.Placed.{Placed}
use Rattle.geda_model.specs.declared.shape.Shape.TheVariants as shapes
use Rattle.geda_model.specs.declared.object.Body.TheVariants as bodies
use Rattle.geda_model.specs.Data.{TextData}
use Rattle.geda_model.specs.Shapes.{PartData}
use Rattle.geda_model.specs.Sheets.{ObjectData}
use Rattle.project_model.specs.Projects.{ProjectData}
use Rattle.attr_rules.specs.Attributes.{attr, attrs}
use Rattle.attr_rules.specs.Components.{has_sources, is_directive, refdes_of}
use Rattle.attr_rules.specs.Splits.{split_of}
use Rattle.attr_rules.specs.NetValues.{net_entries_of, net_entry}
use Rattle.attr_rules.specs.PinLists.{cut_of, pin_numbers}
use Rattle.attr_rules.specs.declared.kinds.PinKind.TheVariants as kinds
use Rattle.geda_geom.specs.declared.conductor.Point.{Point}
use Rattle.geda_geom.specs.declared.conductor.Conductor.TheVariants.{End, Segment}
use Rattle.hierarchy.specs.declared.instances.Instance.{Instance}
use Rattle.pin_place.specs.declared.pins.PlacedPin.{PlacedPin}
use Rattle.pin_place.specs.Pins.{is_drawn, pins_of}
use Rattle.flat_rows.specs.Conductors.{FlatConductor}
use Rattle.instance_objects.specs.Occurrences.{FlatObject}
use Rattle.instance_objects.specs.Texts.{under}
use Rattle.instance_objects.specs.Ports.{labels_of, labels_on}
use Rattle.flat_sheets.specs.Ports.{pins_at}
use Rattle.flat_sheets.specs.ListedParts.{is_no_part}
use Rattle.flat_sheets.specs.Conductors.{RoleData, drawn_of, drawn_pins, hidden_pins, pin_conductor, pins_below, role_of}

abbrev text : List ℕ → TextData
text content = record { x = pos 0; y = pos 0; color = pos 5; size = pos 8; visible = 0; show = 0; angle = 0; align = 0; content = content }

-- a component with an embedded symbol of these parts, and these attributes
abbrev component : List PartData → List (List ℕ) → ObjectData
component parts contents = record {
  body = bodies.Component (record { x = pos 0; y = pos 0; selectable = true; angle = 0; mirror = false; basename = codes "k"; embedded = Some parts });
  attrs = map text contents;
}

-- a pin with the label IN
abbrev labelled_pin : PartData
labelled_pin = record { shape = shapes.Pin (pos 0) (pos 0) (pos 300) (pos 0) (pos 1) false 0; attrs = text (codes "pinlabel=IN") ∷ [] }

-- the component X1, with that pin
abbrev above : ObjectData
above = component (labelled_pin ∷ []) (codes "refdes=X1" ∷ codes "source=b" ∷ [])

abbrev objects : List (ℕ × Placed)
objects = (3, record { sheet = codes "a"; object = above }) ∷ []

abbrev project : ProjectData
project = record { sheets = finite.empty; objects = finite.from_sorted {R = nat_cmp} objects; symbols = finite.empty; next_id = 9 }

-- the sheet below X1
abbrev below : Instance
below = record { sheet = codes "b"; path = codes "X1"; route = 3 ∷ []; parent = Some 0 }

labels_above : labels_of project (Some 3) ≡ codes "IN" ∷ []
unfolding attr attrs split_of net_entries_of chars encode
labels_above =
    let is : labels_on project (Some (record { sheet = codes "a"; object = above })) ≡ codes "IN" ∷ [] = refl in
    ap (labels_on project) (finite.get-from_sorted nat_cmp objects 3 tt) ∙ is

-- an object under the id 7 on that sheet, whose instance is the second
abbrev placed : ObjectData → FlatObject
placed o = record { place = 1; instance = below; id = 7; object = o }

-- ---- roles of components on the sheet below

-- a component with this refdes is a port, by the labels above
abbrev is_port_by : List (List ℕ) → ObjectData → List ℕ → Bool
is_port_by labels o refdes = not (is_directive o None) && list_any (bytes_eq refdes) labels

-- the role of a component with this refdes, by the labels above
abbrev role_with : List (List ℕ) → ObjectData → Option (List ℕ) → RoleData
role_with labels o None = record { refdes = None; leads_down = has_sources o None; leads_up = None; directive = is_directive o None }
role_with labels o (Some refdes) = record {
  refdes = if is_no_part o None || is_port_by labels o refdes then None else Some (under (codes "X1") refdes);
  leads_down = has_sources o None;
  leads_up = if is_port_by labels o refdes then pins_at (Some 0) (Some 3) refdes else None;
  directive = is_directive o None;
}

abbrev role_by : ObjectData → List (List ℕ) → RoleData
role_by o labels = role_with labels o (refdes_of o None)

-- one that is no part and no port, and leads down or not
abbrev unlisted : Bool → RoleData
unlisted leads_down = record { refdes = None; leads_down = leads_down; leads_up = None; directive = false }

abbrev part : ObjectData
part = component [] (codes "refdes=U1" ∷ codes "net=V:9" ∷ [])

abbrev part_role : RoleData
part_role = record { refdes = Some (codes "X1/U1"); leads_down = false; leads_up = None; directive = false }

-- a part is listed under its path
part_below : role_of project (placed part) None ≡ part_role
unfolding attr attrs split_of chars encode
part_below =
    let is : role_by part (codes "IN" ∷ []) ≡ part_role = refl in
    ap (role_by part) labels_above ∙ is

abbrev graphical : ObjectData
graphical = component [] (codes "refdes=U1" ∷ codes "graphical=1" ∷ [])

-- a graphical component is no part
graphical_below : role_of project (placed graphical) None ≡ unlisted false
unfolding attr attrs split_of chars encode
graphical_below =
    let is : role_by graphical (codes "IN" ∷ []) ≡ unlisted false = refl in
    ap (role_by graphical) labels_above ∙ is

abbrev hierarchical : ObjectData
hierarchical = component [] (codes "refdes=U1" ∷ codes "source=c" ∷ [])

-- nor is one with sheets below, to which it leads down
hierarchical_below : role_of project (placed hierarchical) None ≡ unlisted true
unfolding attr attrs split_of chars encode
hierarchical_below =
    let is : role_by hierarchical (codes "IN" ∷ []) ≡ unlisted true = refl in
    ap (role_by hierarchical) labels_above ∙ is

abbrev port : ObjectData
port = component [] (codes "refdes=IN" ∷ codes "net=V:9" ∷ [])

-- the role of a port: it leads up to the pins of its label
abbrev port_role : RoleData
port_role = record { refdes = None; leads_down = false; leads_up = Some (record { instance = 0; id = 3; label = codes "IN" }); directive = false }

-- nor is a port
port_below : role_of project (placed port) None ≡ port_role
unfolding attr attrs split_of chars encode
port_below =
    let is : role_by port (codes "IN" ∷ []) ≡ port_role = refl in
    ap (role_by port) labels_above ∙ is

abbrev directive : ObjectData
directive = component (labelled_pin ∷ []) (codes "refdes=IN" ∷ codes "source=c" ∷ codes "device=DRC_Directive" ∷ codes "value=NoConnection" ∷ codes "net=V:9" ∷ [])

abbrev directive_role : RoleData
directive_role = record { refdes = None; leads_down = false; leads_up = None; directive = true }

-- a directive is no part, and neither leads down nor up, by whatever refdes and `source`
directive_below : role_of project (placed directive) None ≡ directive_role
unfolding attr attrs split_of chars encode
directive_below =
    let is : role_by directive (codes "IN" ∷ []) ≡ directive_role = refl in
    ap (role_by directive) labels_above ∙ is

-- ---- what joins of them

-- the hidden pin of a part has its global name without a path, and the refdes under its path
hidden_pin : hidden_pins (placed part) None part_role ≡ record {
  instance = 1;
  key = record { id = 7; place = 0 };
  shape = None;
  global_names = codes "V" ∷ [];
  drawn_names = [];
  member = Some (record { refdes = codes "X1/U1"; pin = codes "9"; kind = kinds.Pwr });
  leads_down = None;
  leads_up = None;
  directive = false;
} ∷ []
unfolding attr attrs split_of net_entries_of net_entry cut_of pin_numbers is_utf8 chars encode
hidden_pin = refl

-- a port has none
hidden_pin_of_port : hidden_pins (placed port) None port_role ≡ []
hidden_pin_of_port = refl

abbrev at : Point
at = record { x = pos 0; y = pos 0 }

-- what is drawn of the directive
abbrev directive_conductor : FlatConductor
directive_conductor = record {
  instance = 1;
  key = record { id = 7; place = 0 };
  shape = Some (End at);
  global_names = [];
  drawn_names = [];
  member = None;
  leads_down = None;
  leads_up = None;
  directive = true;
}

-- its pin joins, and is no member
directive_pin : drawn_pins project (placed directive) None ≡ directive_conductor ∷ []
unfolding attr attrs split_of net_entries_of chars encode
directive_pin =
    let pins : List PlacedPin = filter is_drawn (pins_of directive None) in
    let is : map (pin_conductor 1 7 directive_role) pins ≡ directive_conductor ∷ [] = refl in
    ap (λ (role : RoleData). map (pin_conductor 1 7 role) pins) directive_below ∙ is

-- the `netname` of a segment gets the path
segment_below : drawn_of project (placed (record { body = bodies.Shape (shapes.Net (pos 0) (pos 0) (pos 0) (pos 0) (pos 4)); attrs = text (codes "netname=N") ∷ [] })) ≡ record {
  instance = 1;
  key = record { id = 7; place = 0 };
  shape = Some (Segment at at);
  global_names = [];
  drawn_names = codes "X1/N" ∷ [];
  member = None;
  leads_down = None;
  leads_up = None;
  directive = false;
} ∷ []
unfolding split_of chars encode
segment_below = refl

-- a pin leads down by its label
label_leads_down : pins_below 0 3 true (Some (codes "IN")) ≡ Some (record { instance = 0; id = 3; label = codes "IN" })
label_leads_down = refl
