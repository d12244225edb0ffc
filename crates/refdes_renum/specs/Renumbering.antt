-- Numbers for components whose refdes ends in `?` (own).
use Rattle.std.specs.Prelude.{ℕ, if◌then◌else◌, not, ◌&&◌, Bool, false, List, [], ◌∷◌, ◌++◌, Option, None, Some, codes}
use Rattle.std.specs.declared.cmp.Ordering.{Ordering}
use Rattle.std.specs.List.{filter_map}
use Rattle.std.specs.FinMap.{entries, get}
use Rattle.std.specs.Cmp.Lexicographic.{slice_cmp}
use Rattle.std.specs.Ordering.{nat_cmp, on, then_cmp}
use Rattle.geda_defs.specs.Order.{once_in_order}
use Rattle.geda_model.specs.declared.object.Body.{Body}
use Rattle.geda_model.specs.declared.object.Body.TheVariants as bodies
use Rattle.geda_model.specs.Sheets.{ObjectData}
use Rattle.project_model.specs.declared.change.Placed.{Placed}
use Rattle.project_model.specs.declared.change.Thing.TheVariants as things
use Rattle.project_model.specs.declared.change.Value.TheVariants as values
use Rattle.project_model.specs.Items.{Item}
use Rattle.project_model.specs.Projects.{ProjectData}
use Rattle.attr_rules.specs.Components.{is_graphical, refdes_of}
use Rattle.attr_rules.specs.Libraries.{library_of}
use Rattle.edit_attr.specs.Attributes.{with_attr}
use Rattle.refdes_renum.specs.declared.place.Place.{Place}
use Rattle.refdes_renum.specs.Numbers.{ends_in_mark, stem_of, stem_with_number, least_free}

-- where an object stands: by the name of its sheet, then by its id
abbrev pub by_place : Place → Place → Ordering
by_place = then_cmp (on (λ p. p.sheet) (slice_cmp nat_cmp)) (on (λ p. p.id) nat_cmp)

-- the refdes of a component, if it has one; a shape has none
abbrev pub component_refdes : ProjectData → ObjectData → Option (List ℕ)
component_refdes p o = of_body o.body
  where
    of_body : Body → Option (List ℕ)
    of_body (bodies.Shape s) = None
    of_body (bodies.Component c) = refdes_of o (library_of p o)

-- a refdes that is there ends in `?`
abbrev pub is_open : Option (List ℕ) → Bool
is_open None = false
is_open (Some refdes) = ends_in_mark refdes

-- a component without a number: it is not graphical, and its refdes ends in `?`
abbrev pub is_unnumbered : ProjectData → ObjectData → Bool
is_unnumbered p o = is_open (component_refdes p o) && not (is_graphical o (library_of p o))

-- the place of such a component
abbrev pub open_place : ProjectData → ℕ × Placed → Option Place
open_place p row =
    if is_unnumbered p row.1.object
    then Some (record { sheet = row.1.sheet; id = row.0 })
    else None

-- the places of all such components, by sheet and then by id
unfoldable pub open_places : ProjectData → List Place
open_places p = once_in_order by_place (filter_map (open_place p) (entries p.objects))

-- the refdes of all components
unfoldable pub component_refdeses : ProjectData → List (List ℕ)
component_refdeses p = filter_map (λ row. component_refdes p row.1.object) (entries p.objects)

-- a refdes without all `?` at its end; nothing, where there is none
abbrev pub stem_in : Option (List ℕ) → List ℕ
stem_in None = []
stem_in (Some refdes) = stem_of refdes

-- the same of an object
abbrev pub stem_at : ProjectData → Placed → List ℕ
stem_at p placed = stem_in (component_refdes p placed.object)

-- its new refdes, where these texts are in use
abbrev pub new_refdes : ProjectData → List (List ℕ) → Placed → List ℕ
new_refdes p used placed =
    stem_with_number (stem_at p placed) (least_free used (stem_at p placed))

-- an object under a new refdes
abbrev pub with_refdes : List ℕ → Placed → Placed
with_refdes refdes placed = record {
  sheet = placed.sheet;
  object = with_attr (codes "refdes") refdes placed.object;
}

-- what comes of an object, if it is there
abbrev pub items_of : ProjectData → List (List ℕ) → ℕ → Option Placed → List Item
items_of p used id None = []
items_of p used id (Some placed) =
    (things.Object id, Some (values.Object (with_refdes (new_refdes p used placed) placed))) ∷ []

-- the texts that are in use then
abbrev pub used_after : ProjectData → List (List ℕ) → Option Placed → List (List ℕ)
used_after p used None = used
used_after p used (Some placed) = used ++ new_refdes p used placed ∷ []

-- what comes of the objects at some places: one after the other gets a new refdes, which is in use
-- from then on
abbrev pub renumbered_at : ProjectData → List (List ℕ) → List Place → List Item
renumbered_at p used [] = []
renumbered_at p used (place ∷ places) =
    items_of p used place.id (get p.objects place.id)
    ++ renumbered_at p (used_after p used (get p.objects place.id)) places

-- the change that gives a number to each component without one
unfoldable pub renumbered : ProjectData → List Item
renumbered p = renumbered_at p (component_refdeses p) (open_places p)
