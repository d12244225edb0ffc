-- Ports: components of a sheet below that stand for pins of the component above (own).
use Rattle.std.specs.Prelude.{ℕ, ◌-◌, Bool, List, [], Option, Some, None, length}
use Rattle.std.specs.FinMap.{get}
use Rattle.std.specs.List.{filter_map, list_any, slice_get}
use Rattle.std.specs.Str.{bytes_eq}
use Rattle.project_model.specs.declared.change.Placed.{Placed}
use Rattle.project_model.specs.Projects.{ProjectData}
use Rattle.attr_rules.specs.Libraries.{library_of}
use Rattle.hierarchy.specs.declared.instances.Instance.{Instance}
use Rattle.pin_place.specs.Pins.{pins_of}

-- the component directly above an instance: the last one of its route
abbrev pub component_above : Instance → Option ℕ
component_above i = slice_get i.route (length i.route - 1)

-- the labels of the drawn pins of an object: a hidden pin has none
abbrev pub labels_on : ProjectData → Option Placed → List (List ℕ)
labels_on p None = []
labels_on p (Some placed) =
    filter_map (λ pin. pin.label) (pins_of placed.object (library_of p placed.object))

-- the labels of the pins of a component
abbrev pub labels_of : ProjectData → Option ℕ → List (List ℕ)
labels_of p None = []
labels_of p (Some id) = labels_on p (get p.objects id)

-- a component with this refdes is a port of the instance: a pin of the component above has the
-- refdes as its label
abbrev pub is_port : ProjectData → Instance → List ℕ → Bool
is_port p i refdes = list_any (bytes_eq refdes) (labels_of p (component_above i))
