-- What one may count on in a net list (own): no two nets have one name, and each pin has one net.
use Rattle.std.specs.Prelude.{◌≡◌, ◌≢◌, ◌↔◌, ℕ, ◌<◌, List, Some, All, Contains, length, slice_get}
use Rattle.std.specs.List.{AllPairs, Any}
use Rattle.geda_defs.specs.Classes.{Joined}
use Rattle.project_model.specs.Projects.{ProjectData}
use Rattle.attr_rules.specs.Libraries.{library_of}
use Rattle.pin_place.specs.declared.pins.PlacedPin.{PlacedPin}
use Rattle.pin_place.specs.Pins.{pins_of}
use Rattle.flat_rows.specs.Conductors.{FlatConductor}
use Rattle.net_list.specs.declared.member.Member.{Member}
use Rattle.link_classes.specs.Links.{Linked}
use Rattle.flat_sheets.specs.Conductors.{conductors_of, member_under}
use Rattle.flat_sheets.specs.ListedParts.{listed_refdes}
use Rattle.instance_objects.specs.Occurrences.{FlatObject, flat_objects}
use Rattle.net_list.specs.declared.nets.Net.{Net}

-- no two nets have one name
abbrev pub NamesDiffer : List Net → Type 0
NamesDiffer nets = AllPairs (λ one other. one.name ≢ other.name) nets

-- at this place stands a drawn or hidden pin of a listed part, and this is how it prints
pub record IsPinAt (conductors : List FlatConductor) (place : ℕ) (pin : Member) : Type 0 where
  pub conductor : FlatConductor
  pub stands : slice_get conductors place ≡ Some conductor
  pub prints : conductor.member ≡ Some pin

-- each drawn or hidden pin of each listed part stands so, in each instance, under the refdes that
-- prints there
abbrev pub EachPinStands : ProjectData → Type 0
EachPinStands p = (part : FlatObject) (refdes : List ℕ) (pin : PlacedPin)
    → Contains (flat_objects p) part → listed_refdes p part ≡ Some refdes
    → Contains (pins_of part.object (library_of p part.object)) pin
    → (i : ℕ) × IsPinAt (conductors_of p) i (member_under pin refdes)

-- their refdes and number are the same
abbrev pub PrintAlike : Member → Member → Type 0
PrintAlike pin other = (pin.refdes ≡ other.refdes) × (pin.pin ≡ other.pin)

-- a pin of this net stands at some place, and is this member of it
pub record IsPinOf (conductors : List FlatConductor) (net_of : ℕ → Net) (net : Net)
    (member : Member) : Type 0 where
  pub place : ℕ
  pub stands : IsPinAt conductors place member
  pub own : net_of place ≡ net

-- `net_of` tells the net of the pin at each place. It is listed, and a member of it prints as the
-- pin; two pins have one net exactly where a chain of links leads from one to the other. Nothing
-- else is listed: each net has members, each of them is a pin of that net, and no two print alike
pub record AreNetsOfPins (conductors : List FlatConductor) (nets : List Net) (net_of : ℕ → Net)
    : Type 0 where
  pub listed : (i : ℕ) (pin : Member) → IsPinAt conductors i pin → Contains nets (net_of i)
  pub printed : (i : ℕ) (pin : Member) → IsPinAt conductors i pin
      → Any (PrintAlike pin) (net_of i).members
  pub class : (i j : ℕ) (pin other : Member)
      → IsPinAt conductors i pin → IsPinAt conductors j other
      → (net_of i ≡ net_of j) ↔ Joined (Linked conductors) i j
  pub filled : All (λ net. 0 < length net.members) nets
  pub only : All (λ net. All (IsPinOf conductors net_of net) net.members) nets
  pub once : All (λ net. AllPairs (λ one other. ¬ (PrintAlike one other)) net.members) nets

-- each pin of a listed part has one net of the list, that of its class
abbrev pub EachPinHasOneNet : List FlatConductor → List Net → Type 0
EachPinHasOneNet conductors nets = (net_of : ℕ → Net) × AreNetsOfPins conductors nets net_of
