-- The definitions, evaluated on small symbols.
use Rattle.std.proofs.Common.{◌≡◌, refl}
use Rattle.std.specs.Prelude.{ℕ, ℤ, pos, negsuc, Bool, false, true, List, [], ◌∷◌, Option, Some, None, codes}
use Rattle.std.specs.Fmt.{digits}
use Rattle.std.specs.Str.{is_utf8, chars}
use lib.Utf8.{encode}
use Rattle.geda_model.specs.declared.shape.Shape.TheVariants as shapes
use Rattle.geda_model.specs.Shapes.{PartData}
use Rattle.attr_rules.specs.NetValues.{net_entry}
use Rattle.attr_rules.specs.PinLists.{cut_of, pin_numbers}
use Rattle.attr_rules.specs.Slots.{short_number}
use Rattle.sym_check.specs.declared.checked.CheckedPin.{CheckedPin}
use Rattle.sym_check.specs.declared.checked.CheckedSymbol.{CheckedSymbol}
use Rattle.sym_check.specs.CheckedPins.{is_net_pin, is_off_grid}
use Rattle.sym_check.specs.Findings.{bad_net_value, bad_numslots, found_on_pins, found_on_slots, found_on_symbol, symbol_error, symbol_warning}
use Rattle.sym_check.specs.Slotdefs.{is_bad_slotdef}

-- a pin with this `pinnumber` and this `pinseq`, and all else
abbrev pin : ℕ → Option (List ℕ) → Option (List ℕ) → CheckedPin
pin place number seq = record {
  place = place;
  number = number;
  seq = seq;
  has_label = true;
  has_kind = true;
  is_off_grid = false;
}

-- one without `pinlabel`
abbrev bare : ℕ → List ℕ → CheckedPin
bare place number = record {
  place = place;
  number = Some number;
  seq = Some number;
  has_label = false;
  has_kind = true;
  is_off_grid = false;
}

-- a symbol with `device` and `refdes`
abbrev with_pins : List CheckedPin → CheckedSymbol
with_pins pins = record {
  has_device = true;
  has_refdes = true;
  is_graphical = false;
  numslots = None;
  slotdefs = [];
  nets = [];
  pins = pins;
}

-- one with one pin, and slots
abbrev with_slots : List ℕ → List (List ℕ) → CheckedSymbol
with_slots numslots slotdefs = record {
  has_device = true;
  has_refdes = true;
  is_graphical = false;
  numslots = Some numslots;
  slotdefs = slotdefs;
  nets = [];
  pins = pin 0 (Some (codes "1")) (Some (codes "1")) ∷ [];
}

-- one without attributes and pins, graphical or not
abbrev empty : Bool → CheckedSymbol
empty graphical = record {
  has_device = false;
  has_refdes = false;
  is_graphical = graphical;
  numslots = None;
  slotdefs = [];
  nets = [];
  pins = [];
}

-- a part of two pins
abbrev two : CheckedSymbol
two = record {
  has_device = true;
  has_refdes = false;
  is_graphical = false;
  numslots = None;
  slotdefs = [];
  nets = [];
  pins = bare 0 (codes "1") ∷ bare 1 (codes "2") ∷ [];
}

two_has_no_labels : found_on_symbol two ≡ symbol_warning 2 [] ∷ symbol_warning 8 (codes "0") ∷ symbol_warning 8 (codes "1") ∷ []
unfolding short_number digits
two_has_no_labels = refl

-- a gate of four slots, of which the last has no `slotdef`
abbrev gate : CheckedSymbol
gate = record {
  has_device = true;
  has_refdes = false;
  is_graphical = false;
  numslots = Some (codes "4");
  slotdefs = codes "1:1,2,3" ∷ codes "2:4,5,6" ∷ codes "3:9,10,8" ∷ [];
  nets = codes "Vcc:14" ∷ codes "GND:7" ∷ [];
  pins = bare 0 (codes "1") ∷ bare 1 (codes "2") ∷ bare 2 (codes "3") ∷ [];
}

gate_lacks_a_slotdef : found_on_symbol gate
    ≡ symbol_warning 2 [] ∷ symbol_warning 8 (codes "0") ∷ symbol_warning 8 (codes "1") ∷ symbol_warning 8 (codes "2") ∷ symbol_error 12 (codes "4") ∷ []
unfolding short_number digits cut_of pin_numbers net_entry is_utf8 chars encode
gate_lacks_a_slotdef = refl

nothing_is_there : found_on_symbol (empty false) ≡ symbol_warning 1 [] ∷ symbol_warning 2 [] ∷ symbol_warning 3 [] ∷ []
nothing_is_there = refl

graphical_needs_no_pins : found_on_symbol (empty true) ≡ symbol_warning 1 [] ∷ []
graphical_needs_no_pins = refl

-- `0` and five digits are no `pinseq`, `0001` is one
seqs_are_small_numbers : found_on_pins (with_pins (pin 0 None None ∷ pin 1 (Some (codes "A")) (Some (codes "0"))
    ∷ pin 2 (Some (codes "B")) (Some (codes "10000")) ∷ pin 3 (Some (codes "C")) (Some (codes "0001")) ∷ []))
    ≡ symbol_error 4 (codes "0") ∷ symbol_error 5 (codes "0") ∷ symbol_error 5 (codes "1") ∷ symbol_error 5 (codes "2") ∷ []
unfolding short_number digits
seqs_are_small_numbers = refl

-- `1` and `01` are two texts
texts_stand_twice : found_on_pins (with_pins (pin 0 (Some (codes "1")) (Some (codes "1")) ∷ pin 1 (Some (codes "01")) (Some (codes "2"))
    ∷ pin 2 (Some (codes "1")) (Some (codes "2")) ∷ []))
    ≡ symbol_error 6 (codes "1") ∷ symbol_error 7 (codes "2") ∷ symbol_error 6 (codes "1") ∷ symbol_error 7 (codes "2") ∷ []
unfolding short_number digits
texts_stand_twice = refl

five_digits_are_no_numslots : bad_numslots (with_slots (codes "10000") []) ≡ symbol_error 11 (codes "10000") ∷ []
unfolding short_number
five_digits_are_no_numslots = refl

four_digits_are : bad_numslots (with_slots (codes "0000") []) ≡ []
unfolding short_number
four_digits_are = refl

-- the digits of 2 are not `02`
digits_are_compared : found_on_slots (with_slots (codes "2") (codes "1:7" ∷ codes "02:8" ∷ [])) ≡ symbol_error 12 (codes "2") ∷ []
unfolding short_number digits cut_of pin_numbers is_utf8 chars encode
digits_are_compared = refl

slot_is_given_twice : found_on_slots (with_slots (codes "1") (codes "1:7" ∷ codes "1:8" ∷ []))
    ≡ symbol_error 13 (codes "1") ∷ symbol_error 13 (codes "1") ∷ []
unfolding short_number digits cut_of pin_numbers is_utf8 chars encode
slot_is_given_twice = refl

good : is_bad_slotdef (Some 2) 2 (codes "2:7, 8") ≡ false
unfolding short_number cut_of pin_numbers is_utf8 chars encode
good = refl

no_colon : is_bad_slotdef (Some 2) 2 (codes "2") ≡ true
unfolding short_number cut_of pin_numbers is_utf8 chars encode
no_colon = refl

no_number : is_bad_slotdef (Some 2) 2 (codes "0:7,8") ≡ true
unfolding short_number cut_of pin_numbers is_utf8 chars encode
no_number = refl

above : is_bad_slotdef (Some 2) 2 (codes "3:7,8") ≡ true
unfolding short_number cut_of pin_numbers is_utf8 chars encode
above = refl

none_is_above_0 : is_bad_slotdef (Some 0) 2 (codes "3:7,8") ≡ false
unfolding short_number cut_of pin_numbers is_utf8 chars encode
none_is_above_0 = refl

empty_number : is_bad_slotdef None 2 (codes "2:7,") ≡ true
unfolding short_number cut_of pin_numbers is_utf8 chars encode
empty_number = refl

one_too_few : is_bad_slotdef None 2 (codes "2:7") ≡ true
unfolding short_number cut_of pin_numbers is_utf8 chars encode
one_too_few = refl

one_too_many : is_bad_slotdef None 2 (codes "2:7,8,9") ≡ true
unfolding short_number cut_of pin_numbers is_utf8 chars encode
one_too_many = refl

net_without_colon : bad_net_value (codes "Vcc") ≡ symbol_error 15 (codes "Vcc") ∷ []
unfolding net_entry cut_of pin_numbers is_utf8 chars encode
net_without_colon = refl

-- a pin from here to (300, 0), on a net or on a bus
abbrev drawn : ℤ → Bool → PartData
drawn x bus = record { shape = shapes.Pin x (pos 0) (pos 300) (pos 0) (pos 1) bus 0; attrs = [] }

bus_pin_is_none : is_net_pin (drawn (pos 0) true) ≡ false
bus_pin_is_none = refl

grid_goes_both_ways : is_off_grid (drawn (negsuc 199) false) ≡ false
grid_goes_both_ways = refl

half_a_step_is_off : is_off_grid (drawn (negsuc 149) false) ≡ true
half_a_step_is_off = refl
