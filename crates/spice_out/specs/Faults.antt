-- Why a net list has no SPICE text (own): the first package with a card that has a fault decides.
use Rattle.std.specs.Prelude.{◌≡◌, ℕ, ◌&&◌, not, if◌then◌else◌, Bool, List, [], ◌∷◌, ◌++◌, Option, Some, None, length}
use Rattle.std.specs.List.{list_any}
use Rattle.std.specs.Option.{is_some, option_or}
use Rattle.std.specs.Str.{bytes_eq}
use Rattle.net_list.specs.declared.package.Package.{Package}
use Rattle.net_list.specs.declared.nets.Net.{Net}
use Rattle.net_list.specs.declared.nets.Nets.{Nets}
use Rattle.spice_out.specs.declared.fault.SpiceFault.{SpiceFault}
use Rattle.spice_out.specs.declared.fault.SpiceFault.TheVariants as faults
use Rattle.spice_out.specs.Cards.{card_name, folded, has_card, pin_count}
use Rattle.spice_out.specs.Pins.{PinData, has_numbered_pins, is_on_two_nets, numbers_of, refdes_pins}
use Rattle.spice_out.specs.SpiceText.{value_of}

-- a package has a card of this name, without regard to ASCII case
abbrev pub is_card_named : List ℕ → Package → Bool
is_card_named name p = has_card p.refdes && bytes_eq name (folded (card_name p.refdes))

-- an earlier package has the name of this one
abbrev pub clashes : List Package → Package → Bool
clashes earlier p = list_any (is_card_named (folded (card_name p.refdes))) earlier

-- the fault of a package with a card, by what is true of it: the first in this order
abbrev pub fault_of : Bool → Bool → Bool → Package → Option SpiceFault
fault_of clash has_pins is_on_two p =
    if clash then Some (faults.NameClash p.refdes)
    else if not has_pins then Some (faults.PinSet p.refdes)
    else if is_on_two then Some (faults.TwoNets p.refdes)
    else if is_some (value_of p) then None
    else Some (faults.NoValue p.refdes)

-- the same of one with n pins
abbrev pub card_fault : Bool → List PinData → Package → ℕ → Option SpiceFault
card_fault clash pins p n = fault_of clash (has_numbered_pins n pins) (is_on_two_nets pins) p

-- the first fault of a package; one that is skipped has none
abbrev pub fault_with : Bool → List PinData → Package → Option ℕ → Option SpiceFault
fault_with clash pins p None = None
fault_with clash pins p (Some n) = card_fault clash pins p n

abbrev pub fault_by : Bool → List PinData → Package → Option SpiceFault
fault_by clash pins p = fault_with clash pins p (pin_count p.refdes (length (numbers_of pins)))

abbrev pub package_fault : List Net → List Package → Package → Option SpiceFault
package_fault nets earlier p = fault_by (clashes earlier p) (refdes_pins nets p.refdes) p

-- the fault of the first package that has one, behind earlier ones
abbrev pub first_spice_fault : List Net → List Package → List Package → Option SpiceFault
first_spice_fault nets earlier [] = None
first_spice_fault nets earlier (p ∷ ps) =
    option_or (package_fault nets earlier p) (first_spice_fault nets (earlier ++ p ∷ []) ps)

-- why a net list has no SPICE text, if it has none
abbrev pub spice_fault : Nets → Option SpiceFault
spice_fault list = first_spice_fault list.nets [] list.packages

-- this fault is the one that was found; want of memory may come at any time
abbrev pub SpiceFails : SpiceFault → Option SpiceFault → Type 0
SpiceFails faults.NoMemory found = Unit {0}
SpiceFails fault found = found ≡ Some fault
