-- The definitions, evaluated on a few components of one sheet.
use Rattle.std.proofs.Common.{◌≡◌, refl}
use Rattle.std.specs.Prelude.{ℕ, false, true, List, [], ◌∷◌, Option, Some, None, codes}
use Rattle.std.specs.Fmt.{digits}
use Rattle.attr_rules.specs.Slots.{short_number}
use Rattle.drc_findings.specs.declared.rule.Rule.TheVariants as drc
use Rattle.drc_findings.specs.Findings.{a_warning, an_error}
use Rattle.component_checks.specs.CheckedComponents.{CheckedData}
use Rattle.component_checks.specs.OnComponents.{found_on_components}
use Rattle.component_checks.specs.OnPackages.{unused_slots}

-- a listed part with this refdes, this `slot` and this count of slots
abbrev slotted : List ℕ → Option (List ℕ) → Option ℕ → CheckedData
slotted refdes slot slots = record {
  sheet = codes "t.sch";
  id = 0;
  basename = codes "k.sym";
  has_symbol = true;
  refdes = Some refdes;
  is_hierarchical = false;
  is_port = false;
  has_net = false;
  has_bad_net = false;
  slot = slot;
  slot_fault = None;
  slots = slots;
  pins = [];
}

-- a listed part with this refdes, without `slot`
abbrev whole : List ℕ → CheckedData
whole refdes = slotted refdes None None

-- one that has this slot of two
abbrev of_two : List ℕ → List ℕ → CheckedData
of_two refdes slot = slotted refdes (Some slot) (Some 2)

-- slots of one package have a refdes in common
slots_share_a_refdes : found_on_components (of_two (codes "U1") (codes "1") ∷ of_two (codes "U1") (codes "2") ∷ []) ≡ []
slots_share_a_refdes = refl

-- a whole part has it for itself
whole_part_has_its_refdes_alone : found_on_components (of_two (codes "U1") (codes "1") ∷ whole (codes "R1") ∷ whole (codes "U1") ∷ [])
    ≡ an_error drc.DuplicateRefdes (codes "U1") ∷ an_error drc.DuplicateRefdes (codes "U1") ∷ []
whole_part_has_its_refdes_alone = refl

-- one that ends in `?` is no duplicate
open_refdes_is_no_duplicate : found_on_components (whole (codes "R?") ∷ whole (codes "R?") ∷ [])
    ≡ an_error drc.Unnumbered (codes "R?") ∷ an_error drc.Unnumbered (codes "R?") ∷ []
open_refdes_is_no_duplicate = refl

-- one slot is given to two; `1` and `01` are two texts
slot_is_given_twice : found_on_components (of_two (codes "U1") (codes "1") ∷ of_two (codes "U1") (codes "01") ∷ of_two (codes "U1") (codes "1") ∷ [])
    ≡ an_error drc.DuplicateSlot (codes "U1 1") ∷ an_error drc.DuplicateSlot (codes "U1 1") ∷ []
slot_is_given_twice = refl

-- three slots of a package of four are not used; its first count of slots is taken, and `04` is the fourth slot
three_slots_are_unused : unused_slots (whole (codes "U1") ∷ slotted (codes "U1") (Some (codes "04")) (Some 4) ∷ of_two (codes "U1") (codes "x") ∷ of_two (codes "U2") (codes "1") ∷ []) (codes "U1")
    ≡ a_warning drc.UnusedSlot (codes "U1 1") ∷ a_warning drc.UnusedSlot (codes "U1 2") ∷ a_warning drc.UnusedSlot (codes "U1 3") ∷ []
unfolding short_number digits
three_slots_are_unused = refl
