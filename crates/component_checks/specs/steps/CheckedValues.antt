-- Steps of the code; no public clause cites them.
-- What a component is to the check, by its first values, what is at fault with them, and its drawn
-- pins.
use Rattle.std.specs.Prelude.{List, Option, is_some, option_map}
use Rattle.geda_model.specs.Shapes.{ComponentData}
use Rattle.geda_model.specs.Sheets.{SymbolData}
use Rattle.project_model.specs.Projects.{ProjectData}
use Rattle.attr_rules.specs.Components.{if_line}
use Rattle.attr_rules.specs.FirstValues.{ValuesData, says_sources}
use Rattle.attr_rules.specs.Slots.{slot_count}
use Rattle.pin_place.specs.declared.pins.PlacedPin.{PlacedPin}
use Rattle.instance_objects.specs.Occurrences.{FlatObject}
use Rattle.instance_objects.specs.Texts.{under}
use Rattle.component_checks.specs.CheckedComponents.{CheckedData, finds_symbol, is_port_if}
use Rattle.component_checks.specs.declared.value_faults.ValueFaults.{ValueFaults}

-- a component with a library symbol, these first values, these faults and these drawn pins, as the
-- check sees it
abbrev pub checked_by : ProjectData → FlatObject → ComponentData → Option SymbolData → ValuesData
    → ValueFaults → List PlacedPin → CheckedData
checked_by p f c library v faults pins = record {
  sheet = f.instance.sheet;
  id = f.id;
  basename = c.basename;
  has_symbol = finds_symbol c library;
  refdes = option_map (under f.instance.path) (if_line v.refdes);
  is_hierarchical = says_sources v;
  is_port = is_port_if p f.instance (if_line v.refdes);
  has_net = is_some v.net;
  has_bad_net = faults.bad_net;
  slot = v.slot;
  slot_fault = faults.slot;
  slots = slot_count v.numslots;
  pins = pins;
}
