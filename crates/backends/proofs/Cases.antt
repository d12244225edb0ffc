-- Texts of some net lists, computed from their definitions. Pins are of the kind of a member that is given.
use Rattle.std.proofs.Common.{◌≡◌, ℕ, false, List, [], ◌∷◌, Some, None, refl}
use Rattle.std.specs.Prelude.{codes}
use Rattle.std.specs.Fmt.{digits}
use Rattle.net_list.specs.declared.member.Member.{Member}
use Rattle.net_list.specs.declared.package.Package.{Package}
use Rattle.net_list.specs.declared.nets.Net.{Net}
use Rattle.net_list.specs.declared.nets.NetSort.{NetSort}
use Rattle.net_list.specs.declared.nets.NetSort.TheVariants as sorts
use Rattle.net_list.specs.declared.nets.Nets.{Nets}
use Rattle.net_list.specs.declared.form.Form.TheVariants as forms
use Rattle.backends.specs.CsvRecords.{csv_field}
use Rattle.backends.specs.Forms.{net_text}

-- a resistor with this value and without a footprint
abbrev resistor : List ℕ → List ℕ → Package
resistor refdes value = record {
  refdes = refdes;
  device = Some (codes "RESISTOR");
  value = Some value;
  footprint = None;
}

-- a pin of the kind of a member
abbrev member : Member → List ℕ → List ℕ → Member
member like refdes number = record { refdes = refdes; pin = number; kind = like.kind }

-- a net that is no global one and has no directive
abbrev net : List ℕ → NetSort → List Member → Net
net name sort members = record { name = name; sort = sort; global = false; directive = false; members = members }

-- two resistors that join by one pin of each
abbrev two_resistors : Member → Nets
two_resistors m = record {
  packages = resistor (codes "R1") (codes "10k") ∷ resistor (codes "R2") (codes "22k") ∷ [];
  nets =
      net (codes "unnamed_net1") sorts.Unnamed (member m (codes "R1") (codes "2") ∷ member m (codes "R2") (codes "1") ∷ [])
      ∷ net (codes "unconnected_pin-1") sorts.Unconnected (member m (codes "R1") (codes "1") ∷ [])
      ∷ net (codes "unconnected_pin-2") sorts.Unconnected (member m (codes "R2") (codes "2") ∷ []) ∷ [];
}

-- blocks for the packages and for the net that joins pins
in_tango : (m : Member) → net_text forms.Tango (two_resistors m) ≡
    codes "[\nR1\nunknown\nRESISTOR\n10k\n]\n[\nR2\nunknown\nRESISTOR\n22k\n]\n(\nunnamed_net1\nR1-2\nR2-1\n)\n"
in_tango m = refl

-- a line for the net that joins pins
in_pcb : (m : Member) → net_text forms.Pcb (two_resistors m) ≡ codes "unnamed_net1\tR1-2 R2-1\n"
in_pcb m = refl

-- two values are two articles
in_bom : (m : Member) → net_text forms.Bom (two_resistors m) ≡
    codes "device,value,footprint,refdes,count\nRESISTOR,10k,,R1,1\nRESISTOR,22k,,R2,1\n"
unfolding digits
in_bom m = refl

-- packages of one article share a record, which stands where the first of them does
one_record : net_text forms.Bom (record { packages = resistor (codes "R1") (codes "10k") ∷ resistor (codes "R2") (codes "22k") ∷ resistor (codes "R3") (codes "10k") ∷ []; nets = [] }) ≡
    codes "device,value,footprint,refdes,count\nRESISTOR,10k,,R1 R3,2\nRESISTOR,22k,,R2,1\n"
unfolding digits
one_record = refl

-- a comma and a quotation mark call for quotes
quoted : csv_field (codes "5%, \"red\"") ≡ codes "\"5%, \"\"red\"\"\""
quoted = refl
