-- Two pins of cards have one node exactly where they are members of one net, and no two cards have
-- one name.
use Rattle.std.proofs.Common.{◌≡◌, ◌≢◌, ◌∙◌, ℕ, ◌≤◌, Bool, true, false, cond, List, [], ◌∷◌, ◌++◌, Option, Some, None, Contains, decimal, length, refl, sym, ap, subst, arith, true≢false}
use Rattle.std.specs.Prelude.{All}
use Rattle.std.specs.List.{slice_get}
use Rattle.std.specs.Option.{is_some, unwrap_or}
use Rattle.std.proofs.lemmas.Fmt.{decimal_injective}
use Rattle.std.proofs.lemmas.List.Elements.{All-contains_itself, All-weaker, Contains-append_right}
use Rattle.std.proofs.lemmas.Option.{none-some, same_Some}
use Rattle.geda_defs.proofs.Bytes.{bytes_true}
use Rattle.pair_classes.proofs.ListLemmas.{head_is_in}
use Rattle.flat_rows.specs.Conductors.{FlatConductor}
use Rattle.net_list.specs.declared.member.Member.{Member}
use Rattle.net_list.specs.declared.package.Package.{Package}
use Rattle.net_list.specs.declared.nets.Net.{Net}
use Rattle.net_list.specs.declared.nets.Nets.{Nets}
use Rattle.net_names.specs.NetLaws.{AreNetsOfPins, IsPinAt}
use Rattle.net_names.proofs.ApartLemmas.{Apart, as_pairs, of_filter}
use Rattle.net_names.proofs.NameLaws.{AreNamedApart}
use Rattle.net_names.proofs.PlaceLemmas.{is_there, place_in}
use Rattle.spice_out.specs.Cards.{card_name, folded, has_card, pin_count}
use Rattle.spice_out.specs.Faults.{clashes, fault_of, fault_with, first_spice_fault, is_card_named, package_fault, spice_fault}
use Rattle.spice_out.specs.Nodes.{NodedNetData, noded_nets}
use Rattle.spice_out.specs.Pins.{numbers_of, refdes_pins}
use Rattle.spice_out.specs.SpiceLaws.{AreFew, AreOfOneNet, CardsDiffer, HasPin, IsCardPin, NodesAreChains, NodesAreNets, PrintsAs, carded, node_at}
use Rattle.spice_out.specs.SpiceText.{node_text}
use Rattle.spice_out.proofs.NodeLemmas.{node_small, one_node, stands, stands_there}
use Rattle.spice_out.proofs.PinLemmas.{IsAt, card_is_sound, first_is_small, no_fault, none_later, not_any, pin_is_at, pin_there}
use Rattle.spice_out.proofs.TextLemmas.{has_one}

-- ---- names

abbrev Differ : Package → Package → Type 0
Differ p q = folded (card_name p.refdes) ≢ folded (card_name q.refdes)

no_clash : (clash has two : Bool) (p : Package) → fault_of clash has two p ≡ None → clash ≡ false
no_clash true has two p e = absurd (none-some _ (sym e))
no_clash false has two p e = refl

-- an earlier card has another name
differs : (nets : List Net) (earlier : List Package) (p q : Package) → package_fault nets earlier q ≡ None → has_card q.refdes ≡ true → Contains earlier p → has_card p.refdes ≡ true
    → Differ p q
differs nets earlier p q none card there has same =
    let clash = by (pin_count q.refdes (length (numbers_of (refdes_pins nets q.refdes)))) (has_one q.refdes (length (numbers_of (refdes_pins nets q.refdes))) ∙ card) none in
    let named = not_any (is_card_named (folded (card_name q.refdes))) earlier p clash there in
    true≢false (sym (rw (has, bytes_true (folded (card_name q.refdes)) (folded (card_name p.refdes)) (sym same)) refl) ∙ named)
  where
    by : (c : Option ℕ) → is_some c ≡ true → fault_with (clashes earlier q) (refdes_pins nets q.refdes) q c ≡ None → clashes earlier q ≡ false
    by None some e = absurd (true≢false (sym some))
    by (Some n) some e = no_clash (clashes earlier q) _ _ q e

apart_from : (nets : List Net) (earlier ps : List Package) → first_spice_fault nets earlier ps ≡ None → Apart Differ (carded ps)
apart_from nets earlier [] none = tt
apart_from nets earlier (p ∷ ps) none = by (has_card p.refdes) refl (apart_from nets (earlier ++ p ∷ []) ps rest)
  where
    rest : first_spice_fault nets (earlier ++ p ∷ []) ps ≡ None
    rest = none_later (package_fault nets earlier p) (first_spice_fault nets (earlier ++ p ∷ []) ps) none

    later : has_card p.refdes ≡ true → All (Differ p) (carded ps)
    later has = All-weaker (Contains (carded ps)) (Differ p)
        (λ q there.
        let c = of_filter (λ x. has_card x.refdes) ps q there in
        let f = no_fault nets (earlier ++ p ∷ []) ps q rest c.0 in
        differs nets f.0 p q f.2 c.1 (f.1 p (Contains-append_right earlier (p ∷ []) p (head_is_in p []))) has)
        (carded ps) (All-contains_itself (carded ps))

    by : (b : Bool) → has_card p.refdes ≡ b → Apart Differ (carded ps) → Apart Differ (cond b (p ∷ carded ps) (carded ps))
    by true has others = (later has, others)
    by false has others = others

-- no two cards have one name
pub cards_differ : (list : Nets) → spice_fault list ≡ None → CardsDiffer list
cards_differ list none = as_pairs Differ (carded list.packages) (apart_from list.nets [] list.packages none)

-- ---- nodes

module _ (list : Nets) (few : AreFew list) (apart : Apart AreNamedApart list.nets) (none : spice_fault list ≡ None) where
  card_pin : (p : Package) (k : ℕ) → IsCardPin list p k → IsAt list.nets p.refdes k
  card_pin p k is =
      let there = of_filter (λ x. has_card x.refdes) list.packages p is.card in
      let fault = no_fault list.nets [] list.packages p none there.0 in
      by fault.0 (pin_count p.refdes (length (numbers_of (refdes_pins list.nets p.refdes)))) is.within fault.2
    where
      by : (before : List Package) (c : Option ℕ) → k ≤ unwrap_or c 0 → fault_with (clashes before p) (refdes_pins list.nets p.refdes) p c ≡ None → IsAt list.nets p.refdes k
      by before None le f = absurd (omega (arith, le, is.from_one))
      by before (Some n) le f =
          let sound = card_is_sound (clashes before p) (refdes_pins list.nets p.refdes) p (Some n) n refl f in
          pin_is_at list.nets p.refdes n k sound.0 sound.1 is.from_one le

  one_net : (p q : Package) (k l : ℕ) → IsCardPin list p k → IsCardPin list q l → node_at list p k ≡ node_at list q l → AreOfOneNet list p k q l
  one_net p q k l a b same =
      let x = card_pin p k a in
      let y = card_pin q l b in
      let texts : decimal x.net.at.node ≡ decimal y.net.at.node = sym (ap node_text x.first) ∙ same ∙ ap node_text y.first in
      let nodes = decimal_injective x.net.at.node y.net.at.node (first_is_small list few p.refdes (decimal k) x.net.at x.first) (first_is_small list few q.refdes (decimal l) y.net.at y.first) texts in
      let place = one_node list.nets apart x.place y.place x.net y.net x.at y.at nodes in
      let net : x.net ≡ y.net = same_Some x.net y.net (sym x.at ∙ ap (slice_get (noded_nets list.nets)) place ∙ y.at) in
      (y.net.net, is_there list.nets y.place y.net.net ((stands 0 1 list.nets y.place y.net y.at).1), subst (λ (d : NodedNetData). HasPin p k d.net) net x.member, y.member)

  -- the node of a pin is that of each net that has it
  its_node : (p : Package) (k : ℕ) → IsCardPin list p k → (i : ℕ) (d : NodedNetData) → slice_get (noded_nets list.nets) i ≡ Some d → HasPin p k d.net → node_at list p k ≡ decimal d.at.node
  its_node p k a i d at has =
      let x = card_pin p k a in
      let net : d.at.net ≡ x.net.at.net = x.alone (record { number = decimal k; at = d.at }) (pin_there list.nets p.refdes (decimal k) i d at has) refl in
      let here = (stands 0 1 list.nets i d at).0 in
      let there = (stands 0 1 list.nets x.place x.net x.at).0 in
      let place : x.place ≡ i = omega (arith, net, here, there) in
      let same : x.net ≡ d = same_Some x.net d (sym x.at ∙ ap (slice_get (noded_nets list.nets)) place ∙ at) in
      ap node_text x.first ∙ ap (λ (e : NodedNetData). decimal e.at.node) same

  one_text : (p q : Package) (k l : ℕ) → IsCardPin list p k → IsCardPin list q l → AreOfOneNet list p k q l → node_at list p k ≡ node_at list q l
  one_text p q k l a b (net, there, first, second) =
      let i = place_in list.nets net there in
      let d = stands_there 0 1 list.nets i.0 net i.1 in
      its_node p k a i.0 d.0 d.1 (subst (λ (n : Net). HasPin p k n) (sym d.2) first)
      ∙ sym (its_node q l b i.0 d.0 d.1 (subst (λ (n : Net). HasPin q l n) (sym d.2) second))

  -- two pins of cards have one node exactly where they are members of one net
  pub nodes_are_nets : NodesAreNets list
  nodes_are_nets = λ p q k l a b. (one_net p q k l a b, one_text p q k l a b)

  -- a pin of a card is of one net
  same_net : (p : Package) (k : ℕ) → IsCardPin list p k → (net other : Net) → Contains list.nets net → Contains list.nets other → HasPin p k net → HasPin p k other → net ≡ other
  same_net p k a net other there also has too =
      let i = place_in list.nets net there in
      let j = place_in list.nets other also in
      let d = stands_there 0 1 list.nets i.0 net i.1 in
      let e = stands_there 0 1 list.nets j.0 other j.1 in
      let first = its_node p k a i.0 d.0 d.1 (subst (λ (n : Net). HasPin p k n) (sym d.2) has) in
      let second = its_node p k a j.0 e.0 e.1 (subst (λ (n : Net). HasPin p k n) (sym e.2) too) in
      let node = decimal_injective d.0.at.node e.0.at.node (node_small list.nets few i.0 d.0 d.1) (node_small list.nets few j.0 e.0 e.1) (sym first ∙ second) in
      let place = one_node list.nets apart i.0 j.0 d.0 e.0 d.1 e.1 node in
      same_Some net other (sym i.1 ∙ ap (slice_get list.nets) place ∙ j.1)

  module _ (fs : List FlatConductor) (net_of : ℕ → Net) (are : AreNetsOfPins fs list.nets net_of) where
    -- the net of a place has the pin that stands there
    its_net : (p : Package) (k i : ℕ) (pin : Member) → IsPinAt fs i pin → PrintsAs p k pin → HasPin p k (net_of i)
    its_net p k i pin is as_pin =
        let m = are.printed i pin is in
        (m.0, m.1, m.2, m.3, (sym m.4.0 ∙ as_pin.0, sym m.4.1 ∙ as_pin.1))

    -- so pins have one node where a chain of links joins them
    pub nodes_are_chains : NodesAreChains fs list
    nodes_are_chains = λ p q k l i j pin other a is as_pin b also as_other.
        let first = its_net p k i pin is as_pin in
        let second = its_net q l j other also as_other in
        let class = are.class i j pin other is also in (
          λ same.
              let n = one_net p q k l a b same in
              let one = same_net p k a (net_of i) n.0 (are.listed i pin is) n.1 first n.2 in
              let two = same_net q l b n.0 (net_of j) n.1 (are.listed j other also) n.3 second in
              class.0 (one ∙ two),
          λ chain.
              let same : net_of i ≡ net_of j = class.1 chain in
              one_text p q k l a b (net_of j, are.listed j other also, subst (λ (n : Net). HasPin p k n) same first, second),
        )
