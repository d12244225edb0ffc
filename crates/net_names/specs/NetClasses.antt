-- The classes of what joins, by their labels (own): the pins of a class, each once, and its names.
use Rattle.std.specs.Prelude.{ℕ, ◌+◌, ◌==◌, not, Bool, true, false, List, [], ◌∷◌, Option, Some, None, length, map, filter}
use Rattle.std.specs.declared.cmp.Ordering.{Ordering}
use Rattle.std.specs.List.{filter_map, flat_map, list_any, range_with_len}
use Rattle.std.specs.Ordering.{nat_cmp, on, then_cmp}
use Rattle.geda_geom.specs.declared.conductor.Conductor.{Conductor}
use Rattle.geda_geom.specs.declared.conductor.Conductor.TheVariants.{End}
use Rattle.net_list.specs.declared.member.Member.{Member}
use Rattle.geda_defs.specs.Order.{once_in_order, by_bytes}
use Rattle.flat_rows.specs.Conductors.{FlatConductor}
use Rattle.link_classes.specs.Links.{names_of}

-- what joins, with its place in the list and the label of its class
pub record Labelled : Type 0 where
  pub place : ℕ
  pub label : ℕ
  pub conductor : FlatConductor

-- the first of them stands at this place
abbrev pub labelled_from : ℕ → List FlatConductor → List ℕ → List Labelled
labelled_from place (f ∷ fs) (label ∷ labels) =
    record { place = place; label = label; conductor = f } ∷ labelled_from (place + 1) fs labels
labelled_from place conductors labels = []

-- a pin of a listed part, with its place
pub record ClassPinData : Type 0 where
  pub place : ℕ
  pub member : Member

-- the pin that a member at a place is, if there is one
abbrev pub class_pin : ℕ → Option Member → Option ClassPinData
class_pin place None = None
class_pin place (Some member) = Some (record { place = place; member = member })

-- the pin that it is, if it is one of a listed part
abbrev pub class_pin_of : Labelled → Option ClassPinData
class_pin_of l = class_pin l.place l.conductor.member

-- by refdes, then by number
abbrev pub by_member : ClassPinData → ClassPinData → Ordering
by_member = then_cmp (on (λ p. p.member.refdes) by_bytes) (on (λ p. p.member.pin) by_bytes)

-- and then by place
abbrev pub by_pin : ClassPinData → ClassPinData → Ordering
by_pin = then_cmp by_member (on (λ p. p.place) nat_cmp)

-- the conductors of one net: their pins, each pair of refdes and number once, their names, whether
-- one is global, whether one of them is a pin of a no-connection directive, and whether they are a
-- single drawn pin
pub record NetClassData : Type 0 where
  pub pins : List ClassPinData
  pub names : List (List ℕ)
  pub global : Bool
  pub directive : Bool
  pub is_single_pin : Bool

-- the end of a pin
abbrev pub is_drawn_pin : Option Conductor → Bool
is_drawn_pin (Some (End at)) = true
is_drawn_pin other = false

-- it is one conductor, and that is a drawn pin
abbrev pub is_single_pin : List Labelled → Bool
is_single_pin (l ∷ []) = is_drawn_pin l.conductor.shape
is_single_pin others = false

-- it has a global name
abbrev pub has_global_name : Labelled → Bool
has_global_name l = not (length l.conductor.global_names == 0)

-- it is a pin of a no-connection directive
abbrev pub is_of_directive : Labelled → Bool
is_of_directive l = l.conductor.directive

-- the class of these conductors
abbrev pub net_class : List Labelled → NetClassData
net_class ls = record {
  pins = once_in_order by_member (filter_map class_pin_of ls);
  names = flat_map (λ l. names_of l.conductor) ls;
  global = list_any has_global_name ls;
  directive = list_any is_of_directive ls;
  is_single_pin = is_single_pin ls;
}

-- the class with a label
abbrev pub net_class_of : List Labelled → ℕ → NetClassData
net_class_of ls label = net_class (filter (λ l. l.label == label) ls)

-- it has a member
abbrev pub has_pins : NetClassData → Bool
has_pins c = not (length c.pins == 0)

-- the classes that have members; the labels are places
abbrev pub net_classes : List Labelled → ℕ → List NetClassData
net_classes ls count = filter has_pins (map (net_class_of ls) (range_with_len 0 count))
