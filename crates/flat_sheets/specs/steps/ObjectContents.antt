-- Steps of the code; no public clause cites them.
-- What each object adds to the conductors and the listed parts of a project.
use Rattle.std.specs.Prelude.{ℕ, ◌&&◌, if◌then◌else◌, not, List, [], ◌∷◌, Option, Some, None, codes, is_some, map}
use Rattle.std.specs.List.{flat_map}
use Rattle.std.specs.Option.{option_to_list}
use Rattle.geda_model.specs.declared.shape.Shape.{Shape}
use Rattle.geda_model.specs.declared.shape.Shape.TheVariants as shapes
use Rattle.project_model.specs.Projects.{ProjectData}
use Rattle.attr_rules.specs.Attributes.{attached}
use Rattle.attr_rules.specs.Libraries.{library_of}
use Rattle.pin_place.specs.declared.pins.PlacedPin.{PlacedPin}
use Rattle.pin_place.specs.Pins.{is_drawn, pins_of}
use Rattle.pin_place.specs.SymbolPins.{point}
use Rattle.flat_rows.specs.Conductors.{FlatConductor}
use Rattle.instance_objects.specs.Occurrences.{FlatObject, OccurrenceData, object_at}
use Rattle.instance_objects.specs.Texts.{under}
use Rattle.net_list.specs.declared.package.Package.{Package}
use Rattle.flat_sheets.specs.ListedParts.{listed_part, package_under}
use Rattle.flat_sheets.specs.Conductors.{RoleData, drawn_of, hidden_of, pin_conductor}
use Rattle.flat_sheets.specs.Conductors.{role_of, segment_conductor}

-- the pin, if it is drawn
abbrev pub drawn_pin : ℕ → ℕ → RoleData → PlacedPin → List FlatConductor
drawn_pin place id role pin =
    if is_drawn pin then pin_conductor place id role pin ∷ [] else []

-- the pin, if it is a hidden one of a listed part
abbrev pub hidden_pin : ℕ → ℕ → RoleData → PlacedPin → List FlatConductor
hidden_pin place id role pin =
    if is_some role.refdes && not (is_drawn pin) then pin_conductor place id role pin ∷ [] else []

-- what is drawn of an object that is this shape: a segment with its `netname`s
abbrev pub drawn_of_shape : FlatObject → Shape → List FlatConductor
drawn_of_shape f (shapes.Net x1 y1 x2 y2 color) =
    segment_conductor f.place f.id
    (map (under f.instance.path) (attached f.object (codes "netname")))
    (point x1 y1) (point x2 y2) ∷ []
drawn_of_shape f other = []

-- the role of a component of the project
abbrev pub role_at : ProjectData → FlatObject → RoleData
role_at p f = role_of p f (library_of p f.object)

-- the drawn pins of a component
abbrev pub drawn_of_component : ProjectData → FlatObject → List FlatConductor
drawn_of_component p f =
    flat_map (drawn_pin f.place f.id (role_at p f)) (pins_of f.object (library_of p f.object))

-- its hidden pins
abbrev pub hidden_of_component : ProjectData → FlatObject → List FlatConductor
hidden_of_component p f =
    flat_map (hidden_pin f.place f.id (role_at p f)) (pins_of f.object (library_of p f.object))

-- what it says of its package, if it is a listed part
abbrev pub part_of_component : ProjectData → FlatObject → Option Package
part_of_component p f = package_under f.object (library_of p f.object) (role_at p f).refdes

-- what is drawn of an object, if there is one
abbrev pub drawn_if : ProjectData → Option FlatObject → List FlatConductor
drawn_if p None = []
drawn_if p (Some f) = drawn_of p f

-- its hidden pins
abbrev pub hidden_if : ProjectData → Option FlatObject → List FlatConductor
hidden_if p None = []
hidden_if p (Some f) = hidden_of p f

-- the listed part that it is
abbrev pub part_if : ProjectData → Option FlatObject → List Package
part_if p None = []
part_if p (Some f) = option_to_list (listed_part p f)

-- what is drawn of the objects that stand there
abbrev pub drawn_in : ProjectData → List OccurrenceData → List FlatConductor
drawn_in p os = flat_map (λ o. drawn_if p (object_at p o)) os

-- their hidden pins
abbrev pub hidden_in : ProjectData → List OccurrenceData → List FlatConductor
hidden_in p os = flat_map (λ o. hidden_if p (object_at p o)) os

-- the listed parts among them
abbrev pub parts_in : ProjectData → List OccurrenceData → List Package
parts_in p os = flat_map (λ o. part_if p (object_at p o)) os
