-- Steps of the code; no public clause cites them.
-- A place of each pins above a port, and of each that a port stands for, and the pairs of places
-- that ports tie (own).
use Rattle.std.specs.Prelude.{◌≡◌, ℕ, ◌<◌, List, cond, Option, Some, slice_index_or, Contains}
use Rattle.std.specs.Option.{option_to_list}
use Rattle.std.specs.Ordering.{is_eq}
use Rattle.std.specs.BTreeMap.{BTreeMap, get}
use Rattle.link_classes.specs.Links.{AreTied, AtPlaces}
use Rattle.flat_rows.specs.PinOrder.{by_pins}
use Rattle.link_classes.specs.steps.FirstPlaces.{pair_with}
use Rattle.flat_rows.specs.Conductors.{FlatConductor}
use Rattle.flat_rows.specs.Keyed.{Keyed}
use Rattle.flat_rows.specs.declared.conductors.PortPins.{PortPins}

-- what a map has for pins
abbrev pub place_of : BTreeMap PortPins ℕ → PortPins → Option ℕ
place_of places = get by_pins places

-- the new places have this one for the pins, and all else of the old
abbrev pub Notes : PortPins → ℕ → (PortPins → Option ℕ) → (PortPins → Option ℕ) → Type 0
Notes pins place old new =
    (q : PortPins) → new q ≡ cond (is_eq (by_pins pins q)) (Some place) (old q)

-- pins with places, and a place for each of them
pub record HasKeyed (keyed : List (Keyed PortPins)) (places : PortPins → Option ℕ) : Type 0 where
  pub from : (q : PortPins) (p : ℕ) → places q ≡ Some p → Contains keyed (q, p)
  pub full : (q : PortPins) (i : ℕ) → Contains keyed (q, i) → (p : ℕ) × (places q ≡ Some p)

-- the pair of the place that there is for pins, and their own
abbrev pub port_pair : (PortPins → Option ℕ) → Keyed PortPins → List (ℕ × ℕ)
port_pair places k = pair_with (places k.0) k.1

-- one of the two ways in which a conductor leads
abbrev pub Way : Type 0
Way = FlatConductor → Option PortPins

-- down, as a pin above a port
abbrev pub down : Way
down f = f.leads_down

-- up, as a pin of a port
abbrev pub up : Way
up f = f.leads_up

-- the pins to which a conductor leads one way, as a list of one, or none
abbrev pub pins_led : Way → FlatConductor → List PortPins
pins_led way f = option_to_list (way f)

-- there is a place for what each of the first few conductors leads to, where one leads so
pub record HasPlaces (way : Way) (conductors : List FlatConductor) (count : ℕ)
    (places : PortPins → Option ℕ) : Type 0 where
  pub within : (q : PortPins) (p : ℕ) → places q ≡ Some p → p < count
  pub sound : (q : PortPins) (p : ℕ) (d : FlatConductor)
      → places q ≡ Some p → way (slice_index_or conductors p d) ≡ Some q
  pub full : (i : ℕ) (d : FlatConductor) (q : PortPins) → i < count
      → way (slice_index_or conductors i d) ≡ Some q → (p : ℕ) × (places q ≡ Some p)

-- the pairs have each of the first few conductors with the place for what it leads to
abbrev pub Joins : Way → (PortPins → Option ℕ) → List FlatConductor → ℕ → List (ℕ × ℕ) → Type 0
Joins way places conductors count pairs = (i : ℕ) (d : FlatConductor) (q : PortPins) (p : ℕ)
    → i < count → way (slice_index_or conductors i d) ≡ Some q → places q ≡ Some p
    → Contains pairs (p, i)

-- pairs of places that ports tie, which have each of the first few conductors with a place for the
-- pins above or of the port
pub record TiesPorts (above below : PortPins → Option ℕ) (conductors : List FlatConductor)
    (count : ℕ) (pairs : List (ℕ × ℕ)) : Type 0 where
  pub sound : (i j : ℕ) → Contains pairs (i, j) → AtPlaces AreTied conductors i j
  pub ups : Joins up above conductors count pairs
  pub downs : Joins down below conductors count pairs
