-- Ports as pins above for which they stand (own).
use Rattle.std.specs.Prelude.{ℕ, ◌&&◌, not, if◌then◌else◌, Bool, List, Option, Some, None}
use Rattle.geda_model.specs.Sheets.{ObjectData, SymbolData}
use Rattle.project_model.specs.Projects.{ProjectData}
use Rattle.attr_rules.specs.Components.{is_directive}
use Rattle.hierarchy.specs.declared.instances.Instance.{Instance}
use Rattle.flat_rows.specs.declared.conductors.PortPins.{PortPins}
use Rattle.instance_objects.specs.Ports.{component_above, is_port}

-- a component with this refdes is a port of the instance: it is no directive, and its refdes is
-- that of a port
abbrev pub stands_as_port :
    ProjectData → Instance → ObjectData → Option SymbolData → List ℕ → Bool
stands_as_port p i o library refdes = not (is_directive o library) && is_port p i refdes

-- pins with a label of a component in an instance
abbrev pub pins_at : Option ℕ → Option ℕ → List ℕ → Option PortPins
pins_at (Some place) (Some id) label = Some (record { instance = place; id = id; label = label })
pins_at place id label = None

-- the pins above for which a component with this refdes stands, if it is a port
abbrev pub pins_above :
    ProjectData → Instance → ObjectData → Option SymbolData → Option (List ℕ) → Option PortPins
pins_above p i o library None = None
pins_above p i o library (Some refdes) =
    if stands_as_port p i o library refdes then pins_at i.parent (component_above i) refdes
    else None
