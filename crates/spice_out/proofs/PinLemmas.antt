-- Where the pins of a card are, and which nets have them.
use Rattle.std.proofs.Common.{◌≡◌, ◌∙◌, ℕ, zero, suc, ◌+◌, ◌≤◌, ◌<◌, ◌^◌, ◌==◌, ◌||◌, not, Bool, true, false, cond, List, [], ◌∷◌, ◌++◌, Option, Some, None, Contains, decimal, length, inl, inr, refl, sym, ap, subst, arith, true≢false}
use Rattle.std.specs.Prelude.{All}
use Rattle.std.specs.List.{Any, find, list_all, list_any, range_with_len, slice_get}
use Rattle.std.specs.Option.{is_some, option_map, option_or}
use Rattle.std.specs.Str.{bytes_eq}
use Rattle.std.proofs.lemmas.Bool.{and_parts}
use Rattle.std.proofs.lemmas.List.Elements.{All-contains, All-contains_itself, Contains-append_left}
use Rattle.std.proofs.lemmas.Option.{none-some, same_Some}
use Rattle.geda_defs.proofs.Bytes.{bytes_same, bytes_true}
use Rattle.hierarchy.proofs.ListLemmas.{all_filter_map, all_flat_map, contains_filter_map, contains_flat_map}
use Rattle.pair_classes.proofs.ListLemmas.{in_cases, none_is_in}
use Rattle.net_list.specs.declared.member.Member.{Member}
use Rattle.net_list.specs.declared.package.Package.{Package}
use Rattle.net_list.specs.declared.nets.Net.{Net}
use Rattle.net_list.specs.declared.nets.Nets.{Nets}
use Rattle.net_names.proofs.PlaceLemmas.{found, is_there, place_in}
use Rattle.spice_out.specs.declared.net_nodes.NetNode.{NetNode}
use Rattle.spice_out.specs.declared.fault.SpiceFault.{SpiceFault}
use Rattle.spice_out.specs.Nodes.{NodedNetData, noded_nets}
use Rattle.spice_out.specs.Pins.{PinData, first_at, has_numbered_pins, has_pin, is_elsewhere, is_on_two_nets, numbers_of, pin_under, pins_in, refdes_pins}
use Rattle.spice_out.specs.Faults.{fault_of, fault_with, first_spice_fault, package_fault}
use Rattle.spice_out.specs.SpiceLaws.{AreFew}
use Rattle.spice_out.proofs.NodeLemmas.{small}

-- ---- what holds where there is no fault

none_first : (a b : Option SpiceFault) → option_or a b ≡ None → a ≡ None
none_first None b e = refl
none_first (Some x) b e = absurd (none-some x (sym e))

pub none_later : (a b : Option SpiceFault) → option_or a b ≡ None → b ≡ None
none_later None b e = e
none_later (Some x) b e = absurd (none-some x (sym e))

-- no package of the list has a fault, where the earlier ones stand before it
pub no_fault : (nets : List Net) (earlier ps : List Package) (p : Package) → first_spice_fault nets earlier ps ≡ None → Contains ps p
    → (before : List Package) × ((x : Package) → Contains earlier x → Contains before x) × (package_fault nets before p ≡ None)
no_fault nets earlier [] p none there = none_is_in p there
no_fault nets earlier (q ∷ ps) p none there = elim (in_cases q ps p there) [
  | inl same ↦ (earlier, (λ x c. c), subst (λ (x : Package). package_fault nets earlier x ≡ None) same (none_first (package_fault nets earlier q) (first_spice_fault nets (earlier ++ q ∷ []) ps) none))
  | inr later ↦
      let rest = no_fault nets (earlier ++ q ∷ []) ps p (none_later (package_fault nets earlier q) (first_spice_fault nets (earlier ++ q ∷ []) ps) none) later in
      (rest.0, (λ x c. rest.1 x (Contains-append_left earlier (q ∷ []) x c)), rest.2)
]

-- a card without fault has its pins, and none of them is on two nets
sound : (clash has two : Bool) (p : Package) → fault_of clash has two p ≡ None → (has ≡ true) × (two ≡ false)
sound true has two p e = absurd (none-some _ (sym e))
sound false false two p e = absurd (none-some _ (sym e))
sound false true true p e = absurd (none-some _ (sym e))
sound false true false p e = (refl, refl)

pub card_is_sound : (clash : Bool) (pins : List PinData) (p : Package) (count : Option ℕ) (n : ℕ) → count ≡ Some n → fault_with clash pins p count ≡ None
    → (has_numbered_pins n pins ≡ true) × (is_on_two_nets pins ≡ false)
card_is_sound clash pins p count n is none =
    sound clash (has_numbered_pins n pins) (is_on_two_nets pins) p (subst (λ (c : Option ℕ). fault_with clash pins p c ≡ None) is none)

-- ---- where a pin is

pub in_range : (f : ℕ → Bool) (a n k : ℕ) → list_all f (range_with_len a n) ≡ true → a ≤ k → k < a + n → f k ≡ true
in_range f a zero k all low high = absurd (omega (arith, low, high))
in_range f a (suc n) k all low high =
    let parts = and_parts (f a) (list_all f (range_with_len (a + 1) n)) all in
    by (a == k) refl parts.0 (λ (more : a + 1 ≤ k). in_range f (a + 1) n k parts.1 more (omega (arith, high)))
  where
    by : (b : Bool) → (a == k) ≡ b → f a ≡ true → (a + 1 ≤ k → f k ≡ true) → f k ≡ true
    by true e here later = let same : a ≡ k = grind (arith) in subst (λ (x : ℕ). f x ≡ true) same here
    by false e here later = let more : a + 1 ≤ k = grind (arith) in later more

-- a pin is in a net of the list, at the net's place and node
pub record IsIn (nets : List Net) (refdes : List ℕ) (pin : PinData) : Type 0 where
  pub place : ℕ
  pub net : NodedNetData
  pub at : slice_get (noded_nets nets) place ≡ Some net
  pub here : pin.at ≡ net.at
  pub member : Any (λ m. (m.refdes ≡ refdes) × (m.pin ≡ pin.number)) net.net.members

under_is : (refdes : List ℕ) (at : NetNode) (m : Member) (pin : PinData) → pin_under refdes at m ≡ Some pin → (m.refdes ≡ refdes) × (m.pin ≡ pin.number) × (pin.at ≡ at)
under_is refdes at m pin e = by (bytes_eq m.refdes refdes) refl e
  where
    by : (b : Bool) → bytes_eq m.refdes refdes ≡ b → cond b (Some (record { number = m.pin; at = at })) None ≡ Some pin → (m.refdes ≡ refdes) × (m.pin ≡ pin.number) × (pin.at ≡ at)
    by true is e =
        let same = same_Some _ pin e in
        (bytes_same m.refdes refdes is, ap (λ (p : PinData). p.number) same, sym (ap (λ (p : PinData). p.at) same))
    by false is e = absurd (none-some pin e)

pub pins_are : (nets : List Net) (refdes : List ℕ) → All (IsIn nets refdes) (refdes_pins nets refdes)
pins_are nets refdes =
    all_flat_map (Contains (noded_nets nets)) (IsIn nets refdes) (pins_in refdes)
    (λ d there.
    let k = place_in (noded_nets nets) d there in
    all_filter_map (Contains d.net.members) (IsIn nets refdes) (pin_under refdes d.at)
    (λ m pin member e.
    let is = under_is refdes d.at m pin e in
    record { place = k.0; net = d; at = k.1; here = is.2; member = (member.0, m, member.1, member.2, (is.0, is.1)) })
    d.net.members (All-contains_itself d.net.members))
    (noded_nets nets) (All-contains_itself (noded_nets nets))

-- each member of a net is such a pin
pub pin_there : (nets : List Net) (refdes number : List ℕ) (place : ℕ) (d : NodedNetData) → slice_get (noded_nets nets) place ≡ Some d
    → Any (λ m. (m.refdes ≡ refdes) × (m.pin ≡ number)) d.net.members → Contains (refdes_pins nets refdes) (record { number = number; at = d.at })
pin_there nets refdes number place d at (k, m, lt, is, same) =
    let pin : PinData = record { number = number; at = d.at } in
    let made : pin_under refdes d.at m ≡ Some pin = rw (bytes_true m.refdes refdes same.0, same.1) refl in
    contains_flat_map (pins_in refdes) (noded_nets nets) d pin (is_there (noded_nets nets) place d at)
    (contains_filter_map (pin_under refdes d.at) d.net.members m pin (k, lt, is) made)

some_at : (at : Option NetNode) → is_some at ≡ true → (x : NetNode) × (at ≡ Some x)
some_at None e = absurd (true≢false (sym e))
some_at (Some x) e = (x, refl)

of_map : (f : Option PinData) (at : NetNode) → option_map (λ p. p.at) f ≡ Some at → (pin : PinData) × (f ≡ Some pin) × (pin.at ≡ at)
of_map None at e = absurd (none-some at e)
of_map (Some pin) at e = (pin, refl, same_Some pin.at at e)

-- the k-th pin of a card: where it is first, and that it is nowhere else
pub record IsAt (nets : List Net) (refdes : List ℕ) (k : ℕ) : Type 0 where
  pub place : ℕ
  pub net : NodedNetData
  pub at : slice_get (noded_nets nets) place ≡ Some net
  pub first : first_at (refdes_pins nets refdes) (decimal k) ≡ Some net.at
  pub member : Any (λ m. (m.refdes ≡ refdes) × (m.pin ≡ decimal k)) net.net.members
  pub alone : (pin : PinData) → Contains (refdes_pins nets refdes) pin → pin.number ≡ decimal k → pin.at.net ≡ net.at.net

pub not_any : {X : Type 0} (f : X → Bool) (xs : List X) (x : X) → list_any f xs ≡ false → Contains xs x → f x ≡ false
not_any f [] x none there = none_is_in x there
not_any {X} f (y ∷ ys) x none there = elim (in_cases y ys x there) [
  | inl same ↦ subst (λ (z : X). f z ≡ false) same (left (f y) (list_any f ys) none)
  | inr later ↦ not_any f ys x (right (f y) (list_any f ys) none) later
]
  where
    left : (a b : Bool) → (a || b) ≡ false → a ≡ false
    left true b e = e
    left false b e = refl

    right : (a b : Bool) → (a || b) ≡ false → b ≡ false
    right true b e = absurd (true≢false e)
    right false b e = e

not_else : (first at : NetNode) → is_elsewhere (Some first) at ≡ false → at.net ≡ first.net
not_else first at e = by (first.net == at.net) refl e
  where
    by : (b : Bool) → (first.net == at.net) ≡ b → not b ≡ false → at.net ≡ first.net
    by true is e = grind (arith)
    by false is e = absurd (true≢false e)

pub pin_is_at : (nets : List Net) (refdes : List ℕ) (n k : ℕ) → has_numbered_pins n (refdes_pins nets refdes) ≡ true → is_on_two_nets (refdes_pins nets refdes) ≡ false → 1 ≤ k → k ≤ n → IsAt nets refdes k
pin_is_at nets refdes n k has one low high =
    let pins = refdes_pins nets refdes in
    let all = (and_parts (length (numbers_of pins) == n) (list_all (has_pin pins) (range_with_len 1 n)) has).1 in
    let there = some_at (first_at pins (decimal k)) (in_range (has_pin pins) 1 n k all low (omega (arith, high))) in
    let pin = of_map (find (λ p. bytes_eq p.number (decimal k)) pins) there.0 there.1 in
    let is = found (λ p. bytes_eq p.number (decimal k)) pins pin.0 pin.1 in
    let stands = All-contains (IsIn nets refdes) pins pin.0 (pins_are nets refdes) is.0 in
    let number : pin.0.number ≡ decimal k = bytes_same pin.0.number (decimal k) is.1 in
    let first : first_at pins (decimal k) ≡ Some stands.net.at = there.1 ∙ ap (λ (at : NetNode). Some at) (sym pin.2 ∙ stands.here) in
    record {
      place = stands.place;
      net = stands.net;
      at = stands.at;
      first = first;
      member = subst (λ (text : List ℕ). Any (λ m. (m.refdes ≡ refdes) × (m.pin ≡ text)) stands.net.net.members) number stands.member;
      alone = λ other also same.
          let none = not_any (λ p. is_elsewhere (first_at pins p.number) p.at) pins other one also in
          not_else stands.net.at other.at (rw (same, first) at none);
    }

-- the nodes of pins can be counted
pub first_is_small : (list : Nets) → AreFew list → (refdes number : List ℕ) (at : NetNode) → first_at (refdes_pins list.nets refdes) number ≡ Some at → at.node < 2 ^ 64
first_is_small list few refdes number at e =
    let pins = refdes_pins list.nets refdes in
    let pin = of_map (find (λ p. bytes_eq p.number number) pins) at e in
    let is = found (λ p. bytes_eq p.number number) pins pin.0 pin.1 in
    let stands = All-contains (IsIn list.nets refdes) pins pin.0 (pins_are list.nets refdes) is.0 in
    let low = All-contains (λ d. d.at.node < 1 + length list.nets) (noded_nets list.nets) stands.net (small 0 1 list.nets) (is_there (noded_nets list.nets) stands.place stands.net stands.at) in
    let same : stands.net.at.node ≡ at.node = ap (λ (a : NetNode). a.node) (sym stands.here ∙ pin.2) in
    omega (arith, low, same, few)
