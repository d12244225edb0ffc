-- The definitions on nets written by hand.
use Rattle.std.proofs.Common.{◌≡◌, refl}
use Rattle.std.specs.Prelude.{ℕ, Bool, true, false, List, [], ◌∷◌, codes}
use Rattle.attr_rules.specs.declared.kinds.PinKind.{PinKind}
use Rattle.attr_rules.specs.declared.kinds.PinKind.TheVariants as kinds
use Rattle.net_list.specs.declared.member.Member.{Member}
use Rattle.net_list.specs.declared.nets.Net.{Net}
use Rattle.net_list.specs.declared.nets.NetSort.{NetSort}
use Rattle.net_list.specs.declared.nets.NetSort.TheVariants as sorts
use Rattle.pin_matrix.specs.Matrices.{all_kinds, usual}
use Rattle.drc_findings.specs.declared.rule.Rule.TheVariants as drc
use Rattle.drc_findings.specs.Findings.{a_warning, an_error}
use Rattle.drc_rules.specs.OnNets.{by_count, conflicts, found_on_nets, not_driven, one_pin, pins_on_two, unconnected_pin}

abbrev member : List ℕ → List ℕ → PinKind → Member
member refdes pin kind = record { refdes = refdes; pin = pin; kind = kind }

abbrev net : List ℕ → NetSort → Bool → List Member → Net
net name sort global members = record { name = name; sort = sort; global = global; directive = false; members = members }

-- a net of one pin, and a net of two pins, of these kinds
abbrev one : PinKind → Net
one a = net (codes "n") sorts.Named false (member (codes "A") (codes "1") a ∷ [])

abbrev two : PinKind → PinKind → Net
two a b = net (codes "n") sorts.Named false (member (codes "A") (codes "1") a ∷ member (codes "B") (codes "1") b ∷ [])

-- two outputs conflict
two_outputs : conflicts usual (two kinds.Out kinds.Out)
    ≡ an_error drc.Conflict (codes "n out out") ∷ []
unfolding usual all_kinds
two_outputs = refl

-- one does not with itself
one_output : conflicts usual (one kinds.Out) ≡ []
unfolding usual all_kinds
one_output = refl

-- an output and an io pin are a warning, in matrix order
output_and_io : conflicts usual (two kinds.Io kinds.Out)
    ≡ a_warning drc.Conflict (codes "n out io") ∷ []
unfolding usual all_kinds
output_and_io = refl

-- an input on an output is none
input_and_output : conflicts usual (two kinds.In kinds.Out) ≡ []
unfolding usual all_kinds
input_and_output = refl

-- one pin is a warning, two are none
a_single_pin : one_pin (one kinds.Pas) ≡ a_warning drc.OnePin (codes "n") ∷ []
a_single_pin = refl

two_pins : one_pin (two kinds.Pas kinds.Pas) ≡ []
two_pins = refl

-- a pin that joins nothing, and is found by the usual matrix
abbrev loose : Net
loose = net (codes "unconnected_pin-1") sorts.Unconnected false (member (codes "R 1") (codes "2") kinds.Pas ∷ [])

a_loose_pin : unconnected_pin usual loose ≡ an_error drc.UnconnectedPin (codes "R_1-2") ∷ []
unfolding usual
a_loose_pin = refl

-- it has no other finding
only_loose : found_on_nets usual (loose ∷ []) ≡ an_error drc.UnconnectedPin (codes "R_1-2") ∷ []
unfolding usual all_kinds by_count
only_loose = refl

-- inputs alone are not driven, and an output drives them
two_inputs : not_driven (two kinds.In kinds.Clk) ≡ an_error drc.NotDriven (codes "n") ∷ []
two_inputs = refl

a_driven_input : not_driven (two kinds.In kinds.Out) ≡ []
a_driven_input = refl

-- so does a global name
a_global_name : not_driven (net (codes "Vcc") sorts.Named true (member (codes "A") (codes "1") kinds.In ∷ [])) ≡ []
a_global_name = refl

-- on a net without members nothing is found
no_members : not_driven (net (codes "n") sorts.Named false []) ≡ []
no_members = refl

-- the same net with a directive
abbrev marked : Net → Net
marked n = record { name = n.name; sort = n.sort; global = n.global; directive = true; members = n.members }

-- there one pin is no finding, whatever its kind
an_open_input : found_on_nets usual (marked (one kinds.In) ∷ []) ≡ []
unfolding usual all_kinds by_count
an_open_input = refl

-- two are one finding, and nothing is asked that drives them
joined_inputs : found_on_nets usual (marked (two kinds.In kinds.Clk) ∷ []) ≡ an_error drc.NoConnection (codes "n") ∷ []
unfolding usual all_kinds by_count
joined_inputs = refl

-- a pin is on two nets, another is not
abbrev first : Net
first = net (codes "x") sorts.Named false
    (member (codes "A") (codes "1") kinds.Pas ∷ member (codes "A") (codes "2") kinds.Pas ∷ [])

abbrev second : Net
second = net (codes "y") sorts.Named false
    (member (codes "A") (codes "2") kinds.Pas ∷ member (codes "B") (codes "1") kinds.Pas ∷ [])

shared_pin : pins_on_two (first ∷ second ∷ []) first ≡ an_error drc.PinOnTwoNets (codes "A-2") ∷ []
shared_pin = refl

-- it is found on both, and on the first one alone it is not
shared_on_both : found_on_nets usual (first ∷ second ∷ [])
    ≡ an_error drc.PinOnTwoNets (codes "A-2") ∷ an_error drc.PinOnTwoNets (codes "A-2") ∷ []
unfolding usual all_kinds by_count
shared_on_both = refl

first_alone : found_on_nets usual (first ∷ []) ≡ []
unfolding usual all_kinds by_count
first_alone = refl

-- a pin that is twice a member of one net is on one net
abbrev doubled : Net
doubled = net (codes "x") sorts.Named false
    (member (codes "A") (codes "1") kinds.Pas ∷ member (codes "A") (codes "1") kinds.Pas ∷ [])

doubled_pin : pins_on_two (doubled ∷ []) doubled ≡ []
doubled_pin = refl

-- names that print alike
abbrev spaced : Net
spaced = net (codes "x y") sorts.Named false first.members

abbrev joined : Net
joined = net (codes "x_y") sorts.Named false
    (member (codes "B") (codes "1") kinds.Pas ∷ member (codes "B") (codes "2") kinds.Pas ∷ [])

alike_names : found_on_nets usual (spaced ∷ joined ∷ [])
    ≡ an_error drc.SameText (codes "x_y") ∷ an_error drc.SameText (codes "x_y") ∷ []
unfolding usual all_kinds by_count
alike_names = refl
