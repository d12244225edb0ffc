-- Cards and faults by a map of the pins are those by the pins.
use Rattle.std.proofs.Common.{◌≡◌, ◌∙◌, ◌&&◌, ◌==◌, ◌∷◌, ◌++◌, [], ℕ, Bool, List, Option, None, decimal, length, append_assoc, ap, sym, subst}
use Rattle.std.specs.BTreeMap.{btree_map_len}
use Rattle.std.specs.List.{flat_map, range_with_len}
use Rattle.std.specs.Option.{is_some, option_or, unwrap_or}
use Rattle.printed_texts.specs.PrintedTexts.{flat}
use Rattle.net_list.specs.declared.package.Package.{Package}
use Rattle.spice_out.specs.declared.fault.SpiceFault.{SpiceFault}
use Rattle.spice_out.specs.declared.fault.SpiceFault.TheVariants as faults
use Rattle.spice_out.specs.declared.net_nodes.NetNode.{NetNode}
use Rattle.spice_out.specs.Cards.{card_name}
use Rattle.net_list.specs.declared.nets.Net.{Net}
use Rattle.spice_out.specs.Faults.{SpiceFails, first_spice_fault, package_fault}
use Rattle.spice_out.specs.Pins.{PinData, has_numbered_pins, has_pin, numbers_of}
use Rattle.spice_out.specs.SpiceText.{card_line, node_text, pin_node, value_of}
use Rattle.spice_out.specs.steps.CardLines.{card_by}
use Rattle.spice_out.specs.steps.FirstPins.{AreFirsts, FirstPins, firsts_at, has_each}
use Rattle.spice_out.proofs.FirstLemmas.{flat_map_agree, list_all_agree}

-- the pins are exactly those up to a number where the map has each of them, and no more
pub has_pins_is : (pins : List PinData) (firsts : FirstPins) (n : ℕ) → AreFirsts pins firsts → ((btree_map_len firsts == n) && has_each n firsts) ≡ has_numbered_pins n pins
has_pins_is pins firsts n are =
    ap (λ (count : ℕ). (count == n) && has_each n firsts) are.count
    ∙ ap (λ (b : Bool). (length (numbers_of pins) == n) && b)
    (list_all_agree (λ k. is_some (firsts_at firsts (decimal k))) (has_pin pins) (range_with_len 1 n) (λ k. ap is_some (are.places (decimal k))))

-- the card by the map
pub card_is : (pins : List PinData) (firsts : FirstPins) (p : Package) (n : ℕ) → AreFirsts pins firsts → card_by firsts p n ≡ card_line pins p n
card_is pins firsts p n are =
    ap (λ (nodes : List ℕ). card_name p.refdes ++ nodes ++ 32 ∷ flat (unwrap_or (value_of p) []))
    (flat_map_agree (λ k. 32 ∷ node_text (firsts_at firsts (decimal k))) (λ k. 32 ∷ pin_node pins k) (range_with_len 1 n)
    (λ k. ap (λ (at : Option NetNode). 32 ∷ node_text at) (are.places (decimal k))))

-- the first fault is that of all
fails_first : (e : SpiceFault) (found rest : Option SpiceFault) → SpiceFails e found → SpiceFails e (option_or found rest)
fails_first faults.NoMemory found rest is = tt
fails_first (faults.NameClash r) found rest is = ap (λ (f : Option SpiceFault). option_or f rest) is
fails_first (faults.PinSet r) found rest is = ap (λ (f : Option SpiceFault). option_or f rest) is
fails_first (faults.TwoNets r) found rest is = ap (λ (f : Option SpiceFault). option_or f rest) is
fails_first (faults.NoValue r) found rest is = ap (λ (f : Option SpiceFault). option_or f rest) is

-- ---- one package after the other

module _ (nets : List Net) (earlier ps : List Package) (p : Package) (rest : List Package) (is : ps ≡ p ∷ rest) where
  -- its fault is that of the list
  pub fails_in : (e : SpiceFault) (all : Option SpiceFault) → first_spice_fault nets earlier ps ≡ all → SpiceFails e (package_fault nets earlier p) → SpiceFails e all
  fails_in e all known fails =
      subst (SpiceFails e) (ap (first_spice_fault nets earlier) (sym is) ∙ known) (fails_first e (package_fault nets earlier p) (first_spice_fault nets (earlier ++ p ∷ []) rest) fails)

  -- where it has none, that of the others is
  pub passes_on : (all : Option SpiceFault) → first_spice_fault nets earlier ps ≡ all → package_fault nets earlier p ≡ None → first_spice_fault nets (earlier ++ p ∷ []) rest ≡ all
  passes_on all known none =
      ap (λ (f : Option SpiceFault). option_or f (first_spice_fault nets (earlier ++ p ∷ []) rest)) (sym none)
      ∙ ap (first_spice_fault nets earlier) (sym is) ∙ known

  -- its text stands before that of the others
  pub text_next : (f : Package → List ℕ) (out all : List ℕ) → out ++ flat_map f ps ≡ all → out ++ f p ++ flat_map f rest ≡ all
  text_next f out all known = append_assoc out (f p) (flat_map f rest) ∙ ap (λ (qs : List Package). out ++ flat_map f qs) (sym is) ∙ known
