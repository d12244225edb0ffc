-- Steps of the code; no public clause cites them.
-- Pins of listed parts in one order of all, and those of each class.
use Rattle.std.specs.Prelude.{ℕ, List, [], map, slice_get, slice_index, slice_index_or}
use Rattle.std.specs.declared.cmp.Ordering.{Ordering}
use Rattle.std.specs.List.{filter_map}
use Rattle.std.specs.Option.{option_to_list}
use Rattle.std.specs.Ordering.{on}
use Rattle.geda_defs.specs.Order.{by_bytes, once_in_order}
use Rattle.net_list.specs.declared.member.Member.{Member}
use Rattle.net_list.specs.declared.package.Package.{Package}
use Rattle.flat_rows.specs.Conductors.{FlatConductor}
use Rattle.flat_rows.specs.Keyed.{Keyed, keyed_from}
use Rattle.flat_rows.specs.declared.rows.RowMember.{RowMember}
use Rattle.net_names.specs.NetClasses.{ClassPinData, by_pin}

-- by number
abbrev pub by_number : ClassPinData → ClassPinData → Ordering
by_number = on (λ p. p.member.pin) by_bytes

-- the pin of a member with its place
abbrev pub placed_pin : Keyed Member → ClassPinData
placed_pin m = record { place = m.1; member = m.0 }

-- the pin of a member of parts that have these refdeses
abbrev pub pin_under : List (List ℕ) → Keyed RowMember → ClassPinData
pin_under refdeses m = record {
  place = m.1;
  member = record {
    refdes = slice_index_or refdeses m.0.part [];
    pin = m.0.pin;
    kind = m.0.kind;
  };
}

-- the pin of a member of some parts
abbrev pub pin_in : List Package → Keyed RowMember → ClassPinData
pin_in parts m = pin_under (map (λ p. p.refdes) parts) m

-- the ranks of the parts of members
abbrev pub ranks_of_pins : List ℕ → List (Keyed RowMember) → List ℕ
ranks_of_pins ranks members = map (λ m. slice_index ranks m.0.part) members

-- all pins of conductors
abbrev pub pins_of : List FlatConductor → List ClassPinData
pins_of conductors =
    map placed_pin (keyed_from (λ c. option_to_list c.member) 0 conductors)

-- all pins in order
abbrev pub pins_in_order : List FlatConductor → List ClassPinData
pins_in_order conductors = once_in_order by_pin (pins_of conductors)

-- what stands at places of a list
abbrev pub at_places : {A : Type 0} → List A → List ℕ → List A
at_places xs places = filter_map (slice_get xs) places

-- the label of a pin
abbrev pub label_of : List ℕ → ClassPinData → ℕ
label_of labels p = slice_index labels p.place

-- the labels of pins at places
abbrev pub labels_at : List ClassPinData → List ℕ → List ℕ → List ℕ
labels_at pins places labels = map (label_of labels) (at_places pins places)
