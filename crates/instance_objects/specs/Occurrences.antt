-- The objects of a project as they stand in the instances of its sheets (own).
use Rattle.std.specs.Prelude.{ℕ, ◌+◌, List, [], ◌∷◌, ◌++◌, Option, Some, None, map}
use Rattle.std.specs.declared.cmp.Ordering.{Ordering}
use Rattle.std.specs.Cmp.Lexicographic.{slice_cmp}
use Rattle.std.specs.FinMap.{get}
use Rattle.std.specs.List.{filter_map, slice_get}
use Rattle.std.specs.Ordering.{nat_cmp, on, then_cmp}
use Rattle.project_model.specs.declared.change.Placed.{Placed}
use Rattle.geda_model.specs.Sheets.{ObjectData}
use Rattle.project_model.specs.Projects.{ProjectData, ids_on}
use Rattle.hierarchy.specs.declared.instances.Instance.{Instance}
use Rattle.hierarchy.specs.Instances.{instances_of}
use Rattle.geda_defs.specs.Order.{once_in_order}

-- an object in an instance of its sheet: the route of the instance, its place among all instances,
-- and the id of the object
pub record OccurrenceData : Type 0 where
  pub route : List ℕ
  pub instance : ℕ
  pub id : ℕ

-- by route, number by number (a route that begins another comes before it), then by id
abbrev pub by_occurrence : OccurrenceData → OccurrenceData → Ordering
by_occurrence = then_cmp (on (λ o. o.route) (slice_cmp nat_cmp)) (on (λ o. o.id) nat_cmp)

-- the objects of the instance at a place
abbrev pub occurrences_at : ProjectData → ℕ → Instance → List OccurrenceData
occurrences_at p place i =
    map (λ id. record { route = i.route; instance = place; id = id }) (ids_on p i.sheet)

-- those of instances of which the first stands at a place
abbrev pub occurrences_from : ProjectData → ℕ → List Instance → List OccurrenceData
occurrences_from p place [] = []
occurrences_from p place (i ∷ is) = occurrences_at p place i ++ occurrences_from p (place + 1) is

-- all objects in all instances, in order
abbrev pub occurrences : ProjectData → List OccurrenceData
occurrences p = once_in_order by_occurrence (occurrences_from p 0 (instances_of p))

-- an object with its instance, and the place of that among all instances
pub record FlatObject : Type 0 where
  pub place : ℕ
  pub instance : Instance
  pub id : ℕ
  pub object : ObjectData

-- the object of an id in the instance at a place
abbrev pub flat_object : ℕ → ℕ → Option Instance → Option Placed → Option FlatObject
flat_object place id (Some instance) (Some placed) = Some (record {
  place = place;
  instance = instance;
  id = id;
  object = placed.object;
})
flat_object place id instance placed = None

-- what stands there
abbrev pub object_at : ProjectData → OccurrenceData → Option FlatObject
object_at p o =
    flat_object o.instance o.id (slice_get (instances_of p) o.instance) (get p.objects o.id)

-- all objects in all instances, by route and then by id
abbrev pub flat_objects : ProjectData → List FlatObject
flat_objects p = filter_map (object_at p) (occurrences p)
