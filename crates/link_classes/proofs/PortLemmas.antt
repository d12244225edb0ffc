-- Places of the pins above ports and of the pins of ports, and the pairs of those that ports tie.
use Rattle.std.proofs.Common.{arith, ◌≡◌, ℕ, zero, suc, ◌<◌, inl, inr, Bool, true, false, cond, List, [], ◌∷◌, ◌++◌, length, get_or, Option, Some, None, Contains, refl, sym, ap, subst, ◌∙◌}
use Rattle.std.specs.Cmp.{IsTotalOrder, eq_by_cmp_equiv}
use Rattle.std.specs.List.{flat_map}
use Rattle.std.specs.Option.{option_to_list}
use Rattle.std.specs.Ordering.{eq_by_cmp, nat_cmp, ordering_then}
use Rattle.std.specs.Cmp.Lexicographic.{slice_cmp}
use Rattle.std.proofs.lemmas.Cmp.{nat_cmp_total, nat_list_cmp_total, then_total, on_total}
use Rattle.std.proofs.lemmas.List.Elements.{All-from_get_or, Contains-append_left, Contains-append_right, Contains-append_cases, Contains-get_or, Contains-push, Contains-push_cases}
use Rattle.std.proofs.lemmas.Map.Lookups.{CmpEqualImpliesEq, exact_bytes, exact_pairs, exact_unsigned}
use Rattle.std.proofs.lemmas.Map.Views.{tells_apart}
use Rattle.flat_rows.specs.Conductors.{FlatConductor}
use Rattle.flat_rows.specs.declared.conductors.PortPins.{PortPins}
use Rattle.link_classes.specs.Links.{AreTied, AtPlaces, LeadsTo}
use Rattle.link_classes.specs.steps.FirstPlaces.{pair_with}
use Rattle.flat_rows.specs.PinOrder.{by_pins}
use Rattle.flat_rows.specs.Keyed.{Keyed, keyed_from}
use Rattle.link_classes.specs.steps.PortPlaces.{HasKeyed, HasPlaces, Joins, Notes, TiesPorts, Way, down, pins_led, port_pair, up}
use Rattle.pair_classes.specs.Pairs.{IsSameAt, Spans}
use Rattle.pair_classes.proofs.ListLemmas.{is_only, none_is_in}
use Rattle.link_classes.proofs.FirstPlaceLemmas.{has_key, keyed_there}
use Rattle.link_classes.proofs.ListLemmas.{no_conductor}
use Rattle.pair_classes.proofs.LabelLemmas.{joined_by}

-- pins that compare alike are one
exact_pins : CmpEqualImpliesEq by_pins
exact_pins a b h =
    ap (λ (p : (ℕ × ℕ) × List ℕ). record { instance = p.0.0; id = p.0.1; label = p.1 })
    (exact_pairs (λ (x y : ℕ × ℕ). ordering_then (nat_cmp x.0 y.0) (nat_cmp x.1 y.1)) (slice_cmp nat_cmp) (exact_pairs nat_cmp nat_cmp exact_unsigned exact_unsigned) exact_bytes
    ((a.instance, a.id), a.label) ((b.instance, b.id), b.label) h)

by_pins_total : IsTotalOrder by_pins
by_pins_total = then_total (then_total (on_total (λ p. p.instance) nat_cmp_total) (on_total (λ p. p.id) nat_cmp_total)) (on_total (λ p. p.label) nat_list_cmp_total)

some_is : {A : Type 0} (a b : A) → ◌≡◌ {A = Option A} (Some a) (Some b) → a ≡ b
some_is a b e = cc

-- the place that is noted last
pub keyed_noted : (keyed : List (Keyed PortPins)) (pins : PortPins) (place : ℕ) (old new : PortPins → Option ℕ) → Notes pins place old new → HasKeyed keyed old
    → HasKeyed (keyed ++ (pins, place) ∷ []) new
keyed_noted keyed pins place old new notes has = record {
  from = λ q p e. from_by q p (eq_by_cmp by_pins pins q) refl (sym (notes q) ∙ e);
  full = λ q i c. elim (Contains-push_cases keyed (pins, place) (q, i) c) [
    | inl before ↦ full_by q (has.full q i before) (eq_by_cmp by_pins pins q) refl
    | inr here ↦
        let same : pins ≡ q = ap (λ (k : Keyed PortPins). k.0) here in
        let alike : eq_by_cmp by_pins pins q ≡ true = subst (λ (x : PortPins). eq_by_cmp by_pins pins x ≡ true) same ((eq_by_cmp_equiv by_pins_total).refl pins) in
        (place, notes q ∙ ap (λ (b : Bool). cond b (Some place) (old q)) alike)
  ];
}
  where
    from_by : (q : PortPins) (p : ℕ) (b : Bool) → eq_by_cmp by_pins pins q ≡ b → cond b (Some place) (old q) ≡ Some p → Contains (keyed ++ (pins, place) ∷ []) (q, p)
    from_by q p true same h =
        subst (λ (n : ℕ). Contains (keyed ++ (pins, place) ∷ []) (q, n)) (some_is place p h)
        (subst (λ (x : PortPins). Contains (keyed ++ (pins, place) ∷ []) (x, place)) (tells_apart exact_pins pins q same) (Contains-push keyed (pins, place)))
    from_by q p false other h = Contains-append_left keyed ((pins, place) ∷ []) (q, p) (has.from q p h)

    full_by : (q : PortPins) → (p : ℕ) × (old q ≡ Some p) → (b : Bool) → eq_by_cmp by_pins pins q ≡ b → (p : ℕ) × (new q ≡ Some p)
    full_by q h true same = (place, notes q ∙ ap (λ (b : Bool). cond b (Some place) (old q)) same)
    full_by q h false other = (h.0, notes q ∙ ap (λ (b : Bool). cond b (Some place) (old q)) other ∙ h.1)

module _ {X Y : Type 0} (g : X → List Y) where
  -- what comes of an element, and the other way round
  in_flat_map : (xs : List X) (y : Y) → Contains (flat_map g xs) y → (x : X) × Contains xs x × Contains (g x) y
  in_flat_map [] y c = none_is_in y c
  in_flat_map (x ∷ xs) y c = elim (Contains-append_cases (g x) (flat_map g xs) y c) [
    | inl here ↦ (x, (0, omega arith, refl), here)
    | inr there ↦ let h = in_flat_map xs y there in let lt = h.1.1 in (h.0, (suc h.1.0, omega (arith, lt), h.1.2), h.2)
  ]

  flat_map_at : (xs : List X) (k : ℕ) (x : X) (y : Y) → k < length xs → get_or xs k x ≡ x → Contains (g x) y → Contains (flat_map g xs) y
  flat_map_at [] k x y lt is c = absurd (omega (arith, lt))
  flat_map_at (z ∷ xs) zero x y lt is c = Contains-append_left (g z) (flat_map g xs) y (subst (λ (w : X). Contains (g w) y) (sym is) c)
  flat_map_at (z ∷ xs) (suc k) x y lt is c = Contains-append_right (g z) (flat_map g xs) y (flat_map_at xs k x y (omega (arith, lt)) is c)

paired : (o : Option ℕ) (place i j : ℕ) → Contains (pair_with o place) (i, j) → (o ≡ Some i) × (place ≡ j)
paired None place i j c = none_is_in (i, j) c
paired (Some p) place i j c =
    let same : ◌≡◌ {A = ℕ × ℕ} (p, place) (i, j) = is_only (p, place) (i, j) c in
    (ap (λ (x : ℕ × ℕ). Some x.0) same, ap (λ (x : ℕ × ℕ). x.1) same)

only_led : (o : Option PortPins) (q : PortPins) → Contains (option_to_list o) q → o ≡ Some q
only_led None q c = none_is_in q c
only_led (Some p) q c = ap (λ (x : PortPins). Some x) (is_only p q c)

module _ (way : Way) (cs : List FlatConductor) (keyed : List (Keyed PortPins)) (are : keyed ≡ keyed_from (pins_led way) 0 cs) where
  led_at : (q : PortPins) (i : ℕ) → Contains keyed (q, i) → (i < length cs) × ((d : FlatConductor) → way (get_or cs i d) ≡ Some q)
  led_at q i c =
      let h = keyed_there (pins_led way) cs q i (subst (λ (ks : List (Keyed PortPins)). Contains ks (q, i)) are c) in
      (h.0, λ d. only_led (way (get_or cs i d)) q (h.1 d))

  leads_at : (i : ℕ) (d : FlatConductor) (q : PortPins) → i < length cs → way (get_or cs i d) ≡ Some q → Contains keyed (q, i)
  leads_at i d q lt leads =
      subst (λ (ks : List (Keyed PortPins)). Contains ks (q, i)) (sym are)
      (has_key (pins_led way) cs q i d lt (subst (λ (o : Option PortPins). Contains (option_to_list o) q) (sym leads) (Contains-push [] q)))

  -- places of all pins to which conductors lead
  pub has_places : (places : PortPins → Option ℕ) → HasKeyed keyed places → HasPlaces way cs (length cs) places
  has_places places has = record {
    within = λ q p e. (led_at q p (has.from q p e)).0;
    sound = λ q p d e. (led_at q p (has.from q p e)).1 d;
    full = λ i d q lt leads. has.full q i (leads_at i d q lt leads);
  }

  -- the pairs of all
  joins_all : (places : PortPins → Option ℕ) (pairs : List (ℕ × ℕ)) → ((p : ℕ × ℕ) → Contains (flat_map (port_pair places) keyed) p → Contains pairs p) → Joins way places cs (length cs) pairs
  joins_all places pairs kept i d q p lt leads found =
      let at = leads_at i d q lt leads in
      kept (p, i) (flat_map_at (port_pair places) keyed at.0 (q, i) (p, i) at.1 at.2 (subst (λ (o : Option ℕ). Contains (pair_with o i) (p, i)) (sym found) (Contains-push [] (p, i))))

  -- a pair is of a place that leads one way, and one where the other way leads to the same
  tied_pair : (other : Way) (places : PortPins → Option ℕ) → HasPlaces other cs (length cs) places → ((a b : FlatConductor) (q : PortPins) → other a ≡ Some q → way b ≡ Some q → AreTied a b)
      → (i j : ℕ) → Contains (flat_map (port_pair places) keyed) (i, j) → AtPlaces AreTied cs i j
  tied_pair other places has ties i j c =
      let h = in_flat_map (port_pair places) keyed (i, j) c in
      let q = h.0.0 in
      let pair = paired (places q) h.0.1 i j h.2 in
      let led = led_at q h.0.1 h.1 in
      subst (λ (n : ℕ). AtPlaces AreTied cs i n) pair.1 (record {
        first = has.within q i pair.0;
        second = led.0;
        related = λ d. ties (get_or cs i d) (get_or cs h.0.1 d) q (has.sound q i d pair.0) (led.1 d);
      })

down_then_up : (a b : FlatConductor) (q : PortPins) → down a ≡ Some q → up b ≡ Some q → AreTied a b
down_then_up a b q above below = inr (record { pins = q; below = below; above = above })

up_then_down : (a b : FlatConductor) (q : PortPins) → up a ≡ Some q → down b ≡ Some q → AreTied a b
up_then_down a b q below above = inl (record { pins = q; below = below; above = above })

tied_turned : (cs : List FlatConductor) (i j : ℕ) → AtPlaces AreTied cs i j → AtPlaces AreTied cs j i
tied_turned cs i j at = record { first = at.second; second = at.first; related = λ d. elim (at.related d) [ inl a ↦ inr a | inr b ↦ inl b ] }

-- pairs that tie ports stand for what ports tie
pub spans_ties : (above below : PortPins → Option ℕ) (cs : List FlatConductor) (pairs : List (ℕ × ℕ)) → HasPlaces down cs (length cs) above → HasPlaces up cs (length cs) below
    → TiesPorts above below cs (length cs) pairs → Spans (AtPlaces AreTied cs) (length cs) pairs
spans_ties above below cs pairs has_above has_below ties = record {
  within = All-from_get_or (λ p. (p.0 < length cs) × (p.1 < length cs)) pairs (0, 0) (λ k h.
      let p = get_or pairs k (0, 0) in
      let at = ties.sound p.0 p.1 (Contains-get_or pairs k (0, 0) h) in
      (at.first, at.second));
  inside = λ i j tied. elim tied [
    | inl c ↦ joined_by (AtPlaces AreTied cs) i j (ties.sound i j c)
    | inr c ↦ joined_by (AtPlaces AreTied cs) i j (tied_turned cs j i (ties.sound j i c))
  ];
  covers = λ f same i j at. elim (at.related no_conductor) [
    | inl to ↦ leads f same i j at.first at.second to
    | inr to ↦ sym (leads f same j i at.second at.first to)
  ];
}
  where
    -- a pin of a port, the place of the pins above, that of the port's pins, and a pin above
    leads : (f : ℕ → ℕ) → IsSameAt f pairs → (i j : ℕ) → i < length cs → j < length cs → LeadsTo (get_or cs i no_conductor) (get_or cs j no_conductor) → f i ≡ f j
    leads f same i j first second to =
        let a = has_above.full j no_conductor to.pins second to.above in
        let b = has_below.full i no_conductor to.pins first to.below in
        let up_i : Contains pairs (a.0, i) = ties.ups i no_conductor to.pins a.0 first to.below a.1 in
        let down_j : Contains pairs (b.0, j) = ties.downs j no_conductor to.pins b.0 second to.above b.1 in
        let middle : Contains pairs (b.0, a.0) = ties.downs a.0 no_conductor to.pins b.0 (has_above.within to.pins a.0 a.1) (has_above.sound to.pins a.0 no_conductor a.1) b.1 in
        sym (same a.0 i (inl up_i)) ∙ sym (same b.0 a.0 (inl middle)) ∙ same b.0 j (inl down_j)

-- so do the pairs of all that leads up and of all that leads down
pub spans_ports : (above below : PortPins → Option ℕ) (cs : List FlatConductor) (downs ups up_again down_again : List (Keyed PortPins))
    → downs ≡ keyed_from (pins_led down) 0 cs → ups ≡ keyed_from (pins_led up) 0 cs → up_again ≡ keyed_from (pins_led up) 0 cs → down_again ≡ keyed_from (pins_led down) 0 cs
    → HasKeyed downs above → HasKeyed ups below
    → Spans (AtPlaces AreTied cs) (length cs) (flat_map (port_pair above) up_again ++ flat_map (port_pair below) down_again)
spans_ports above below cs downs ups up_again down_again are_down are_up up_too down_too has_downs has_ups =
    let has_above = has_places down cs downs are_down above has_downs in
    let has_below = has_places up cs ups are_up below has_ups in
    let first = flat_map (port_pair above) up_again in
    let second = flat_map (port_pair below) down_again in
    spans_ties above below cs (first ++ second) has_above has_below (record {
      sound = λ i j c. elim (Contains-append_cases first second (i, j) c) [
        | inl one ↦ tied_pair up cs up_again up_too down above has_above down_then_up i j one
        | inr two ↦ tied_pair down cs down_again down_too up below has_below up_then_down i j two
      ];
      ups = joins_all up cs up_again up_too above (first ++ second) (λ p c. Contains-append_left first second p c);
      downs = joins_all down cs down_again down_too below (first ++ second) (λ p c. Contains-append_right first second p c);
    })
