-- Some net lists, computed from their definitions. Pins are of the kinds of members that are given.
use Rattle.std.proofs.Common.{◌≡◌, ℕ, pos, true, false, List, [], ◌∷◌, Option, Some, None, refl}
use Rattle.std.specs.Prelude.{codes}
use Rattle.std.specs.Fmt.{digits}
use Rattle.geda_geom.specs.declared.conductor.Conductor.{Conductor}
use Rattle.geda_geom.specs.declared.conductor.Conductor.TheVariants.{End}
use Rattle.net_list.specs.declared.member.Member.{Member}
use Rattle.flat_rows.specs.Conductors.{FlatConductor}
use Rattle.net_list.specs.declared.package.Package.{Package}
use Rattle.net_list.specs.declared.nets.Net.{Net}
use Rattle.net_list.specs.declared.nets.NetSort.{NetSort}
use Rattle.net_list.specs.declared.nets.NetSort.TheVariants as sorts
use Rattle.net_names.specs.Packages.{packages_by}
use Rattle.net_names.specs.NetLists.{nets_by}

-- a pin 1 of the kind of a member
abbrev member : Member → List ℕ → Member
member like refdes = record { refdes = refdes; pin = codes "1"; kind = like.kind }

-- the same as it stands on a sheet, with these names
abbrev pin : Member → List ℕ → Option Conductor → List (List ℕ) → List (List ℕ) → FlatConductor
pin like refdes shape global_names drawn_names = record {
  instance = 0;
  key = record { id = 0; place = 0 };
  shape = shape;
  global_names = global_names;
  drawn_names = drawn_names;
  member = Some (member like refdes);
  leads_down = None;
  leads_up = None;
  directive = false;
}

-- a drawn pin 1 with these names
abbrev drawn : Member → List ℕ → List (List ℕ) → FlatConductor
drawn like refdes names = pin like refdes (Some (End (record { x = pos 0; y = pos 0 }))) [] names

-- a net that is no global one and has no directive
abbrev net : List ℕ → NetSort → List Member → Net
net name sort members = record { name = name; sort = sort; global = false; directive = false; members = members }

-- members stand by refdes, and a class of one drawn pin is unconnected
members_in_order : (m : Member) → nets_by (drawn m (codes "A2") [] ∷ drawn m (codes "A1") [] ∷ drawn m (codes "A3") [] ∷ []) (0 ∷ 0 ∷ 2 ∷ []) ≡
    net (codes "unnamed_net1") sorts.Unnamed (member m (codes "A1") ∷ member m (codes "A2") ∷ [])
    ∷ net (codes "unconnected_pin-1") sorts.Unconnected (member m (codes "A3") ∷ []) ∷ []
unfolding digits
members_in_order m = refl

-- of pins with one refdes and number, the kind of the first counts
first_kind_counts : (m n : Member) → nets_by (drawn m (codes "A1") [] ∷ drawn n (codes "A1") [] ∷ []) (0 ∷ 0 ∷ []) ≡
    net (codes "unnamed_net1") sorts.Unnamed (member m (codes "A1") ∷ []) ∷ []
unfolding digits
first_kind_counts m n = refl

-- a name with fewer `/` comes first
slashes_count : (m : Member) → nets_by (drawn m (codes "A1") (codes "a/X" ∷ []) ∷ drawn m (codes "A2") (codes "Y" ∷ []) ∷ []) (0 ∷ 0 ∷ []) ≡
    net (codes "Y") sorts.Named (member m (codes "A1") ∷ member m (codes "A2") ∷ []) ∷ []
slashes_count m = refl

-- of names with as many `/`, that which is first by bytes; a single drawn pin with a name is named
bytes_count : (m : Member) → nets_by (drawn m (codes "A1") (codes "B" ∷ codes "A" ∷ []) ∷ []) (0 ∷ []) ≡
    net (codes "A") sorts.Named (member m (codes "A1") ∷ []) ∷ []
bytes_count m = refl

-- named nets stand by the bytes of their names
names_in_order : (m : Member) → nets_by (drawn m (codes "A1") (codes "b" ∷ []) ∷ drawn m (codes "A2") (codes "a/c" ∷ []) ∷ []) (0 ∷ 1 ∷ []) ≡
    net (codes "a/c") sorts.Named (member m (codes "A2") ∷ [])
    ∷ net (codes "b") sorts.Named (member m (codes "A1") ∷ []) ∷ []
names_in_order m = refl

-- no unnamed net takes a name that is there, and no unconnected one
taken_names_stay : (m : Member) → nets_by (drawn m (codes "A1") (codes "unnamed_net1" ∷ codes "unconnected_pin-1" ∷ []) ∷ drawn m (codes "A2") [] ∷ drawn m (codes "A3") [] ∷ drawn m (codes "A4") [] ∷ []) (0 ∷ 1 ∷ 1 ∷ 3 ∷ []) ≡
    net (codes "unconnected_pin-1") sorts.Named (member m (codes "A1") ∷ [])
    ∷ net (codes "unnamed_net2") sorts.Unnamed (member m (codes "A2") ∷ member m (codes "A3") ∷ [])
    ∷ net (codes "unconnected_pin-2") sorts.Unconnected (member m (codes "A4") ∷ []) ∷ []
unfolding digits
taken_names_stay m = refl

-- a hidden pin by itself is a net under its global name; one without a name is unnamed
hidden_pins : (m : Member) → nets_by (pin m (codes "U1") None (codes "Vcc" ∷ []) [] ∷ pin m (codes "U2") None [] [] ∷ []) (0 ∷ 1 ∷ []) ≡
    record { name = codes "Vcc"; sort = sorts.Named; global = true; directive = false; members = member m (codes "U1") ∷ [] }
    ∷ net (codes "unnamed_net1") sorts.Unnamed (member m (codes "U2") ∷ []) ∷ []
unfolding digits
hidden_pins m = refl

-- a drawn pin of a no-connection directive: it is no member
abbrev of_directive : FlatConductor
of_directive = record { instance = 0; key = record { id = 9; place = 0 }; shape = Some (End (record { x = pos 0; y = pos 0 })); global_names = []; drawn_names = []; member = None; leads_down = None; leads_up = None; directive = true }

-- a net has a directive where one of its conductors is a pin of one, and is then no unconnected pin
net_with_directive : (m : Member) → nets_by (drawn m (codes "A1") [] ∷ drawn m (codes "A2") [] ∷ of_directive ∷ []) (0 ∷ 1 ∷ 1 ∷ []) ≡
    record { name = codes "unnamed_net1"; sort = sorts.Unnamed; global = false; directive = true; members = member m (codes "A2") ∷ [] }
    ∷ net (codes "unconnected_pin-1") sorts.Unconnected (member m (codes "A1") ∷ []) ∷ []
unfolding digits
net_with_directive m = refl

-- a part with these attributes, and no footprint
abbrev part : List ℕ → Option (List ℕ) → Option (List ℕ) → Package
part refdes device value = record { refdes = refdes; device = device; value = value; footprint = None }

-- parts with one refdes are one package, and of each attribute the first that is there counts
packages_of_three : packages_by (part (codes "U2") (Some (codes "A")) None ∷ part (codes "U1") None (Some (codes "B")) ∷ part (codes "U2") (Some (codes "C")) (Some (codes "D")) ∷ []) ≡
    part (codes "U1") None (Some (codes "B")) ∷ part (codes "U2") (Some (codes "A")) (Some (codes "D")) ∷ []
packages_of_three = refl
