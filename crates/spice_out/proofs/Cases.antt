-- Texts and faults of some net lists, computed from their definitions. Pins are of the kind of a
-- member that is given.
use Rattle.std.proofs.Common.{◌≡◌, ℕ, false, List, [], ◌∷◌, Option, Some, None, refl}
use Rattle.std.specs.Prelude.{codes}
use Rattle.std.specs.Fmt.{digits}
use Rattle.net_list.specs.declared.member.Member.{Member}
use Rattle.net_list.specs.declared.package.Package.{Package}
use Rattle.net_list.specs.declared.nets.Net.{Net}
use Rattle.net_list.specs.declared.nets.NetSort.{NetSort}
use Rattle.net_list.specs.declared.nets.NetSort.TheVariants as sorts
use Rattle.net_list.specs.declared.nets.Nets.{Nets}
use Rattle.spice_out.specs.declared.fault.SpiceFault.TheVariants as faults
use Rattle.spice_out.specs.Cards.{card_name, has_card, pin_count}
use Rattle.spice_out.specs.Faults.{spice_fault}
use Rattle.spice_out.specs.SpiceText.{spice_text}

-- a part with this value and without a footprint
abbrev part : List ℕ → Option (List ℕ) → Package
part refdes value = record { refdes = refdes; device = None; value = value; footprint = None }

-- a pin of the kind of a member
abbrev member : Member → List ℕ → List ℕ → Member
member like refdes number = record { refdes = refdes; pin = number; kind = like.kind }

-- a net that is no global one
abbrev net : List ℕ → NetSort → List Member → Net
net name sort members = record { name = name; sort = sort; global = false; directive = false; members = members }

-- two resistors that join by one pin of each
abbrev two_resistors : Member → Nets
two_resistors m = record {
  packages = part (codes "R1") (Some (codes "10k")) ∷ part (codes "R2") (Some (codes "22k")) ∷ [];
  nets =
      net (codes "unnamed_net1") sorts.Unnamed (member m (codes "R1") (codes "2") ∷ member m (codes "R2") (codes "1") ∷ [])
      ∷ net (codes "unconnected_pin-1") sorts.Unconnected (member m (codes "R1") (codes "1") ∷ [])
      ∷ net (codes "unconnected_pin-2") sorts.Unconnected (member m (codes "R2") (codes "2") ∷ []) ∷ [];
}

joined_resistors : (m : Member) → spice_text (two_resistors m) ≡
    codes "* gafd\n* node 1 unnamed_net1\n* node 2 unconnected_pin-1\n* node 3 unconnected_pin-2\nR1 2 1 10k\nR2 1 3 22k\n.end\n"
unfolding digits
joined_resistors m = refl

no_fault : (m : Member) → spice_fault (two_resistors m) ≡ None
unfolding digits
no_fault m = refl

-- two resistors whose names differ in case alone
abbrev in_two_cases : Member → Nets
in_two_cases m = record {
  packages = part (codes "R1") (Some (codes "10k")) ∷ part (codes "r1") (Some (codes "10k")) ∷ [];
  nets =
      net (codes "unconnected_pin-1") sorts.Unconnected (member m (codes "R1") (codes "1") ∷ [])
      ∷ net (codes "unconnected_pin-2") sorts.Unconnected (member m (codes "R1") (codes "2") ∷ [])
      ∷ net (codes "unconnected_pin-3") sorts.Unconnected (member m (codes "r1") (codes "1") ∷ [])
      ∷ net (codes "unconnected_pin-4") sorts.Unconnected (member m (codes "r1") (codes "2") ∷ []) ∷ [];
}

one_name : (m : Member) → spice_fault (in_two_cases m) ≡ Some (faults.NameClash (codes "r1"))
unfolding digits
one_name m = refl

-- a part of one pin in each of two sheets below
abbrev two_below : Member → Nets
two_below m = record {
  packages = part (codes "U1/C1") None ∷ part (codes "U2/C1") None ∷ [];
  nets =
      net (codes "U1/X") sorts.Named (member m (codes "U1/C1") (codes "1") ∷ [])
      ∷ net (codes "U2/X") sorts.Named (member m (codes "U2/C1") (codes "1") ∷ []) ∷ [];
}

one_pin : (m : Member) → spice_fault (two_below m) ≡ Some (faults.PinSet (codes "U1/C1"))
unfolding digits
one_pin m = refl

-- the net named `GND` has the node 0, and the one named `gnd` another one
two_grounds : (m : Member) → spice_text (record {
  packages = part (codes "V1") (Some (codes "DC 5")) ∷ part (codes "J1") None ∷ [];
  nets = net (codes "GND") sorts.Named (member m (codes "V1") (codes "2") ∷ []) ∷ net (codes "gnd") sorts.Named (member m (codes "V1") (codes "1") ∷ []) ∷ [];
}) ≡ codes "* gafd\n* node 0 GND\n* node 1 gnd\nV1 1 0 DC 5\n* skipped J1\n.end\n"
unfolding digits
two_grounds m = refl

-- the last piece comes first
turned : card_name (codes "top/U1/r1.b") ≡ codes "r1_b_top_U1"
turned = refl

no_letter : has_card (codes "R1/") ≡ false
no_letter = refl

as_many : pin_count (codes "U1/x3") 7 ≡ Some 7
as_many = refl
