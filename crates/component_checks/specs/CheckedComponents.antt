-- What the check asks of each component in each instance of its sheet (own).
use Rattle.std.specs.Prelude.{ℕ, Bool, false, not, ◌||◌, if◌then◌else◌, List, Option, Some, None, Result, Ok, Err, filter, is_some, option_map, codes}
use Rattle.std.specs.List.{filter_map, list_any}
use Rattle.geda_model.specs.declared.object.Body.{Body}
use Rattle.geda_model.specs.declared.object.Body.TheVariants as bodies
use Rattle.geda_model.specs.Shapes.{ComponentData}
use Rattle.geda_model.specs.Sheets.{ObjectData, SymbolData}
use Rattle.project_model.specs.Projects.{ProjectData}
use Rattle.attr_rules.specs.Attributes.{all_attrs, attr, attrs}
use Rattle.attr_rules.specs.Components.{has_sources, is_annotation, refdes_of}
use Rattle.attr_rules.specs.Libraries.{library_of}
use Rattle.attr_rules.specs.NetValues.{net_entry}
use Rattle.attr_rules.specs.Slots.{slot_count, slot_pins}
use Rattle.attr_rules.specs.declared.slots.SlotFault.{SlotFault}
use Rattle.hierarchy.specs.declared.instances.Instance.{Instance}
use Rattle.pin_place.specs.declared.pins.PlacedPin.{PlacedPin}
use Rattle.pin_place.specs.Pins.{is_drawn, pins_of}
use Rattle.instance_objects.specs.Occurrences.{FlatObject, flat_objects}
use Rattle.instance_objects.specs.Texts.{under}
use Rattle.instance_objects.specs.Ports.{is_port}

-- a component in an instance, which is neither graphical nor a directive: its sheet, its id and the
-- name of its symbol, whether it has a symbol, its printed refdes where it has a refdes, whether it
-- has sheets below, whether it is a port, whether it has a value of `net`, and one that is bad, its
-- `slot`, why that gives no pin numbers, the count of its slots where `numslots` is one, and its
-- drawn net pins
pub record CheckedData : Type 0 where
  pub sheet : List ℕ
  pub id : ℕ
  pub basename : List ℕ
  pub has_symbol : Bool
  pub refdes : Option (List ℕ)
  pub is_hierarchical : Bool
  pub is_port : Bool
  pub has_net : Bool
  pub has_bad_net : Bool
  pub slot : Option (List ℕ)
  pub slot_fault : Option SlotFault
  pub slots : Option ℕ
  pub pins : List PlacedPin

-- the component has an embedded symbol, or one of the project
abbrev pub finds_symbol : ComponentData → Option SymbolData → Bool
finds_symbol c library = is_some c.embedded || is_some library

-- a component with this refdes is a port of the instance
abbrev pub is_port_if : ProjectData → Instance → Option (List ℕ) → Bool
is_port_if p i None = false
is_port_if p i (Some refdes) = is_port p i refdes

-- a value of `net` is bad
abbrev pub is_bad_net : List ℕ → Bool
is_bad_net value = not (is_some (net_entry value))

-- the fault, where there is one
abbrev pub slot_fault_of : Result (List (List ℕ)) SlotFault → Option SlotFault
slot_fault_of (Ok numbers) = None
slot_fault_of (Err fault) = Some fault

-- why this value of `slot` gives no pin numbers
abbrev pub slot_fault : ObjectData → Option SymbolData → Option (List ℕ) → Option SlotFault
slot_fault o library None = None
slot_fault o library (Some slot) = slot_fault_of
    (slot_pins slot (attr o library (codes "numslots")) (attrs o library (codes "slotdef")))

-- a component with a library symbol in an instance, as the check sees it
abbrev pub checked_with :
    ProjectData → Instance → ℕ → ObjectData → ComponentData → Option SymbolData → CheckedData
checked_with p i id o c library = record {
  sheet = i.sheet;
  id = id;
  basename = c.basename;
  has_symbol = finds_symbol c library;
  refdes = option_map (under i.path) (refdes_of o library);
  is_hierarchical = has_sources o library;
  is_port = is_port_if p i (refdes_of o library);
  has_net = is_some (attr o library (codes "net"));
  has_bad_net = list_any is_bad_net (all_attrs o library (codes "net"));
  slot = attr o library (codes "slot");
  slot_fault = slot_fault o library (attr o library (codes "slot"));
  slots = slot_count (attr o library (codes "numslots"));
  pins = filter is_drawn (pins_of o library);
}

-- the same, unless it is graphical or a directive
abbrev pub checked_component :
    ProjectData → FlatObject → ComponentData → Option SymbolData → Option CheckedData
checked_component p f c library =
    if is_annotation f.object library then None
    else Some (checked_with p f.instance f.id f.object c library)

-- an object as the check sees it, if it is a component
abbrev pub checked_object : ProjectData → FlatObject → Option CheckedData
checked_object p f = of_body f.object.body
  where
    of_body : Body → Option CheckedData
    of_body (bodies.Shape s) = None
    of_body (bodies.Component c) = checked_component p f c (library_of p f.object)

-- all components in all instances that are neither graphical nor directives, by route and then by
-- id
abbrev pub checked_components : ProjectData → List CheckedData
checked_components p = filter_map (checked_object p) (flat_objects p)
