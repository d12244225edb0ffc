-- Steps of the code; no public clause cites them.
-- Classes by one order of all pins, and by what is told of each.
use Rattle.std.specs.Prelude.{◌≡◌, ℕ, ◌<◌, ◌++◌, ◌&&◌, All, not, cond, if◌then◌else◌, Bool, true, List, [], ◌∷◌, Option, Some, None, length, map, filter, slice_get, slice_index, slice_index_or}
use Rattle.std.specs.List.{filter_map, fold}
use Rattle.geda_defs.specs.Order.{by_bytes}
use Rattle.rank_order.specs.Chains.{AreChains, Rises}
use Rattle.rank_order.specs.Classes.{met}
use Rattle.rank_order.specs.Keys.{AreRanks}
use Rattle.flat_rows.specs.Conductors.{FlatConductor}
use Rattle.net_list.specs.declared.nets.Net.{Net}
use Rattle.net_list.specs.declared.nets.NetSort.{NetSort}
use Rattle.net_list.specs.declared.nets.NetSort.TheVariants as sorts
use Rattle.net_names.specs.NetClasses.{ClassPinData, NetClassData, has_pins, labelled_from, net_class_of}
use Rattle.net_names.specs.NetLists.{is_named, is_unconnected, is_unnamed, named_net}
use Rattle.net_names.specs.declared.net_classes.ClassBody.{ClassBody}
use Rattle.net_names.specs.declared.net_classes.NetClasses.{NetClasses}
use Rattle.net_names.specs.declared.net_classes.OrderedPins.{OrderedPins}
use Rattle.net_names.specs.steps.Gathering.{IsGrown, empty_class}
use Rattle.net_names.specs.steps.Pins.{at_places, label_of, pin_under, pins_in_order}

-- the places are of so many pins, and each is followed by a later one
pub record AreWhole (count : ℕ) (places nexts : List ℕ) : Type 0 where
  pub inside : All (λ p. p < count) places
  pub len : length nexts ≡ length places
  pub rises : Rises nexts

-- the parts of pins are there, and have these ranks
pub record AreRanked (o : OrderedPins) : Type 0 where
  pub parts : All (λ m. m.0.part < length o.refdeses.now) o.members.now
  pub ranks : AreRanks by_bytes o.refdeses.now
      o.ranks.now.ranks.items o.ranks.now.count

-- so are those of classes, and each label that is met has a class
pub record IsWhole (c : NetClasses) : Type 0 where
  pub ranked : AreRanked c.ordered
  pub order : AreWhole (length c.ordered.members.now) c.ordered.places.items
      c.chains.nexts.items
  pub heads : length c.chains.heads.items ≡ length c.growing.items
  pub met : All (λ label. label < length c.growing.items) c.met.items

-- the pins as they come
abbrev pub pins_by : OrderedPins → List ClassPinData
pins_by o = map (pin_under o.refdeses.now) o.members.now

-- the pins of conductors, in order
pub record AreOrdered (conductors : List FlatConductor) (o : OrderedPins) : Type 0 where
  pub ranked : AreRanked o
  pub order : at_places (pins_by o) o.places.items ≡ pins_in_order conductors
  pub places : All (λ p. p < length o.members.now) o.places.items
  pub pins : All (λ m. m.1 < length conductors) o.members.now

-- the classes of conductors with labels
pub record IsGathered (conductors : List FlatConductor) (labels : List ℕ) (c : NetClasses)
    : Type 0 where
  pub labels_len : length labels ≡ length conductors
  pub ordered : AreOrdered conductors c.ordered
  pub whole : IsWhole c
  pub chains : AreChains (map (label_of labels) (pins_in_order conductors)) (length conductors)
      c.chains.heads.items c.chains.nexts.items
  pub met : c.met.items ≡ met (label_of labels) (pins_in_order conductors)
  pub len : length c.growing.items ≡ length conductors
  pub grown : (r : ℕ) → r < length conductors
      → IsGrown (slice_index_or c.growing.items r empty_class)
      (net_class_of (labelled_from 0 conductors labels) r)

-- the pins at places of places
abbrev pub walk_pins : List ClassPinData → List ℕ → List ℕ → List ClassPinData
walk_pins pins places walk = filter_map (λ k. slice_get pins (slice_index places k)) walk

-- a member that prints as the last one is not new
abbrev pub is_new_at : {A : Type 0} → (A → A → Bool) → Option A → Option A → Bool
is_new_at same (Some last) (Some x) = not (same x last)
is_new_at same last x = true

-- it, if it is new
abbrev pub new_at : {A : Type 0} → (A → A → Bool) → Option A → Option A → List A
new_at same last None = []
new_at same None (Some x) = x ∷ []
new_at same (Some last) (Some x) = cond (same x last) [] (x ∷ [])

-- all that are new, each beside the one before it
abbrev pub news : {A : Type 0} → (A → A → Bool) → Option A → List A → List A
news same last [] = []
news same last (x ∷ xs) = new_at same last (Some x) ++ news same (Some x) xs

-- a class without its name
abbrev pub body_of : NetClassData → ClassBody
body_of c = record {
  global = c.global;
  directive = c.directive;
  members = map (λ p. p.member) c.pins;
}

-- the net of a body under a name
abbrev pub net_with : List ℕ → NetSort → ClassBody → Net
net_with name sort b = record {
  name = name;
  sort = sort;
  global = b.global;
  directive = b.directive;
  members = b.members;
}

-- named nets, with that of one more class if it has members and a name
abbrev pub with_named : List Net → NetClassData → List Net
with_named nets c =
    if has_pins c && is_named c then nets ++ named_net c ∷ [] else nets

-- the classes without a name whose nets are of a sort
abbrev pub is_numbered : NetSort → NetClassData → Bool
is_numbered sorts.Unconnected = is_unconnected
is_numbered other = is_unnamed

-- the bodies of those of the classes of labels
abbrev pub bodies_of : List FlatConductor → List ℕ → NetSort → List ℕ → List ClassBody
bodies_of conductors labels sort rs =
    map body_of (filter (is_numbered sort)
    (map (net_class_of (labelled_from 0 conductors labels)) rs))

-- the named nets of the classes of labels that have members
abbrev pub named_of : List FlatConductor → List ℕ → List ℕ → List Net
named_of conductors labels rs =
    fold with_named [] (map (net_class_of (labelled_from 0 conductors labels)) rs)
