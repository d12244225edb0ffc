-- The bodies and the nets of gathered classes.
use Rattle.std.proofs.Common.{◌≡◌, ℕ, suc, ◌+◌, ◌<◌, ◌≤◌, ◌==◌, ◌&&◌, not, Bool, true, false, cond, List, [], ◌∷◌, ◌++◌, Some, None, Ordering, length, get_or, map, filter, fold, drop, refl, sym, ap, subst, ◌∙◌, arith}
use Rattle.std.specs.Prelude.{is_some, slice_get, slice_index}
use Rattle.std.specs.List.{dedup, range_with_len}
use Rattle.std.specs.Ordering.{eq_by_cmp, match_ordering}
use Rattle.std.specs.declared.cmp.Ordering.TheVariants.{Less, Equal, Greater}
use Rattle.std.proofs.lemmas.Bool.{eq-eqb, eqb-true, ne_eqb}
use Rattle.std.proofs.lemmas.List.{drop_more, length-map}
use Rattle.std.proofs.lemmas.List.Sums.{fold-append}
use Rattle.geda_defs.specs.Order.{once_in_order}
use Rattle.rank_order.specs.Chains.{IsWalk}
use Rattle.rank_order.specs.Classes.{least_of}
use Rattle.rank_order.specs.Ranks.{places_from}
use Rattle.rank_order.proofs.RankLemmas.{range_more}
use Rattle.flat_rows.specs.Conductors.{FlatConductor}
use Rattle.net_list.specs.declared.member.Member.{Member}
use Rattle.net_list.specs.declared.nets.Net.{Net}
use Rattle.net_list.specs.declared.nets.NetSort.{NetSort}
use Rattle.net_list.specs.declared.nets.NetSort.TheVariants as sorts
use Rattle.net_names.specs.NetClasses.{ClassPinData, NetClassData, by_member, has_pins, labelled_from, net_class_of}
use Rattle.net_names.specs.NetLists.{by_name, first_or, is_named, named_net}
use Rattle.net_names.specs.declared.net_classes.ClassBody.{ClassBody}
use Rattle.net_names.specs.declared.net_classes.NetClasses.{NetClasses}
use Rattle.net_names.specs.steps.Orders.{by_member_total}
use Rattle.net_names.specs.steps.Classes.{IsGathered, bodies_of, body_of, is_numbered, named_of, net_with, news, pins_by, walk_pins, with_named}
use Rattle.net_names.specs.steps.Gathering.{GrowingClassData, IsGrown, empty_class, is_nameless, lesser}
use Rattle.net_names.specs.steps.Pins.{label_of, pins_in_order}
use Rattle.net_names.proofs.GatheringLemmas.{least_first}
use Rattle.net_names.proofs.OrderedLemmas.{places_there}
use Rattle.net_names.proofs.PinLemmas.{chain_pins, news_are}
use Rattle.net_names.proofs.RankedNets.{class_filled, class_pins, ordered_are}

-- ---- names

first_stays : (least : List ℕ) (names : List (List ℕ)) → is_some (fold lesser (Some least) names) ≡ true
first_stays least [] = refl
first_stays least (name ∷ names) = by (by_name name least) (first_stays name names) (first_stays least names)
  where
    by : (r : Ordering) → is_some (fold lesser (Some name) names) ≡ true → is_some (fold lesser (Some least) names) ≡ true
        → is_some (fold lesser (match_ordering r (Some name) (Some least) (Some least)) names) ≡ true
    by Less f g = f
    by Equal f g = g
    by Greater f g = g

filled : (x : List ℕ) (xs : List (List ℕ)) → not (length (x ∷ xs) == 0) ≡ true
filled x xs = rw (ne_eqb (length (x ∷ xs)) 0 (λ e. omega (arith, e))) refl

-- there is a least name where there is a name
least_named : (names : List (List ℕ)) → is_some (slice_get (once_in_order by_name names) 0) ≡ not (length names == 0)
least_named [] = refl
least_named (name ∷ names) = ap is_some (sym (least_first [] (name ∷ names))) ∙ first_stays name names ∙ sym (filled name names)

pub named_where : (g : GrowingClassData) (c : NetClassData) → IsGrown g c → is_named c ≡ is_some g.least
named_where g c h = sym (least_named c.names) ∙ ap is_some (sym h.least)

-- a class is numbered among nets of a sort where what was gathered of it says so
numbered_where : (sort : NetSort) (g : GrowingClassData) (c : NetClassData) → IsGrown g c → is_numbered sort c ≡ is_nameless sort g
numbered_where sorts.Named g c h = ap (λ (b : Bool). not b && not c.is_single_pin) (named_where g c h) ∙ ap (λ (b : Bool). not (is_some g.least) && not b) (sym h.is_single_pin)
numbered_where sorts.Unnamed g c h = ap (λ (b : Bool). not b && not c.is_single_pin) (named_where g c h) ∙ ap (λ (b : Bool). not (is_some g.least) && not b) (sym h.is_single_pin)
numbered_where sorts.Unconnected g c h = ap (λ (b : Bool). not b && c.is_single_pin) (named_where g c h) ∙ ap (λ (b : Bool). not (is_some g.least) && b) (sym h.is_single_pin)

first_name : (names : List (List ℕ)) (name : List ℕ) → slice_get names 0 ≡ Some name → first_or [] names ≡ name
first_name [] name e = absurd cc
first_name (n ∷ names) name e = cc

-- the net of a body under the least name
pub net_named : (g : GrowingClassData) (c : NetClassData) (name : List ℕ) (body : ClassBody) (net : Net) → IsGrown g c → g.least ≡ Some name → body ≡ body_of c → net ≡ net_with name sorts.Named body → net ≡ named_net c
net_named g c name body net h e b n =
    n ∙ ap (net_with name sorts.Named) b
    ∙ ap (λ (name : List ℕ). net_with name sorts.Named (body_of c)) (sym (first_name (once_in_order by_name c.names) name (sym h.least ∙ e)))

-- ---- one class

module _ (conductors : List FlatConductor) (labels : List ℕ) (same : length labels ≡ length conductors) (c : NetClasses) (are : IsGathered conductors labels c) where
  abbrev C : ℕ → NetClassData
  C = net_class_of (labelled_from 0 conductors labels)

  abbrev pins : List ClassPinData
  pins = pins_by c.ordered

  abbrev places : List ℕ
  places = c.ordered.places.items

  -- the chain of a label walks over the pins with it
  chain_of : (r : ℕ) → walk_pins pins places (places_from 0 (map (label_of labels) (pins_in_order conductors)) r) ≡ filter (λ p. label_of labels p == r) (pins_in_order conductors)
  chain_of r = subst (λ (ps : List ClassPinData). walk_pins pins places (places_from 0 (map (label_of labels) ps) r) ≡ filter (λ p. label_of labels p == r) ps) are.ordered.order
      (chain_pins (label_of labels) r pins places (places_there c.ordered places are.whole.order.inside))

  pub members_of : (r : ℕ) (members : List Member) → r < length conductors
      → ((walk : List ℕ) → IsWalk c.chains.nexts.items (slice_index c.chains.heads.items r) walk → members ≡ map (λ p. p.member) (news (eq_by_cmp by_member) None (walk_pins pins places walk)))
      → members ≡ map (λ p. p.member) (C r).pins
  members_of r members h told =
      told (places_from 0 (map (label_of labels) (pins_in_order conductors)) r) (are.chains.walk r h)
      ∙ ap (λ (ps : List ClassPinData). map (λ p. p.member) (news (eq_by_cmp by_member) None ps)) (chain_of r)
      ∙ ap (map (λ p. p.member)) (news_are by_member_total (filter (λ p. label_of labels p == r) (pins_in_order conductors))
      ∙ ap (λ (ps : List ClassPinData). dedup (eq_by_cmp by_member) (filter (λ p. label_of labels p == r) ps)) (ordered_are conductors labels same)
      ∙ sym (class_pins conductors labels same r))

  pub body_is : (r : ℕ) (members : List Member) (body : ClassBody) → r < length conductors
      → ((walk : List ℕ) → IsWalk c.chains.nexts.items (slice_index c.chains.heads.items r) walk → members ≡ map (λ p. p.member) (news (eq_by_cmp by_member) None (walk_pins pins places walk)))
      → (g : GrowingClassData) → g ≡ get_or c.growing.items r empty_class → body ≡ record { global = g.global; directive = g.directive; members = members } → body ≡ body_of (C r)
  body_is r members body h told g e b =
      let told_grown = are.grown r h in
      let global = ap (λ (g : GrowingClassData). g.global) e ∙ told_grown.global in
      let directive = ap (λ (g : GrowingClassData). g.directive) e ∙ told_grown.directive in
      b
      ∙ ap (λ (x : Bool). record { global = x; directive = g.directive; members = members }) global
      ∙ ap (λ (x : Bool). record { global = (C r).global; directive = x; members = members }) directive
      ∙ ap (λ (ms : List Member). record { global = (C r).global; directive = (C r).directive; members = ms }) (members_of r members h told)

  -- a label has pins where its chain has a place
  least_first_place : (label : ClassPinData → ℕ) (r s : ℕ) (xs : List ClassPinData) (nexts : List ℕ) (head : ℕ) → length nexts ≡ s + length xs → IsWalk nexts head (places_from s (map label xs) r)
      → (is_some (least_of label xs r) ≡ true → head < length nexts) × (is_some (least_of label xs r) ≡ false → head ≡ length nexts)
  least_first_place label r s [] nexts head len w = (λ e. absurd (let f : false ≡ true = e in cc), λ e. w)
  least_first_place label r s (x ∷ xs) nexts head len w = by (label x == r) (r == label x) refl refl w (λ v. least_first_place label r (s + 1) xs nexts head (omega (arith, len)) v)
    where
      by : (b d : Bool) → (label x == r) ≡ b → (r == label x) ≡ d → IsWalk nexts head (cond b (s ∷ places_from (s + 1) (map label xs) r) (places_from (s + 1) (map label xs) r))
          → (IsWalk nexts head (places_from (s + 1) (map label xs) r) → (is_some (least_of label xs r) ≡ true → head < length nexts) × (is_some (least_of label xs r) ≡ false → head ≡ length nexts))
          → (is_some (cond d (Some x) (least_of label xs r)) ≡ true → head < length nexts) × (is_some (cond d (Some x) (least_of label xs r)) ≡ false → head ≡ length nexts)
      by true true e f v rest = (λ h. v.1, λ h. absurd (let g : true ≡ false = h in cc))
      by false false e f v rest = rest v
      by true false e f v rest = absurd (let g : r ≡ label x = sym (eqb-true (label x) r e) in let h : (r == label x) ≡ true = eq-eqb r (label x) g in let i : true ≡ false = sym h ∙ f in cc)
      by false true e f v rest = absurd (let g : label x ≡ r = sym (eqb-true r (label x) f) in let h : (label x == r) ≡ true = eq-eqb (label x) r g in let i : true ≡ false = sym h ∙ e in cc)

  filled_where : (r : ℕ) → r < length conductors
      → (has_pins (C r) ≡ true → get_or c.chains.heads.items r 0 < length c.chains.nexts.items) × (has_pins (C r) ≡ false → get_or c.chains.heads.items r 0 ≡ length c.chains.nexts.items)
  filled_where r h =
      let ps = pins_in_order conductors in
      let is : has_pins (C r) ≡ is_some (least_of (label_of labels) ps r) = class_filled conductors labels same r ∙ ap (λ (xs : List ClassPinData). is_some (least_of (label_of labels) xs r)) (sym (ordered_are conductors labels same)) in
      let count : length c.chains.nexts.items ≡ length ps = are.chains.all_places ∙ length-map ps (label_of labels) in
      let len : length c.chains.nexts.items ≡ 0 + length ps = omega (arith, count) in
      let both = least_first_place (label_of labels) r 0 ps c.chains.nexts.items (get_or c.chains.heads.items r 0) len (are.chains.walk r h) in
      (λ e. both.0 (sym is ∙ e), λ e. both.1 (sym is ∙ e))

  -- a class without pins gives no net
  pub none_named : (r : ℕ) (nets : List Net) → r < length conductors → length c.chains.nexts.items ≤ get_or c.chains.heads.items r 0 → nets ≡ with_named nets (C r)
  none_named r nets h no_pins = by (has_pins (C r)) refl
    where
      by : (b : Bool) → has_pins (C r) ≡ b → nets ≡ cond (b && is_named (C r)) (nets ++ named_net (C r) ∷ []) nets
      by false e = refl
      by true e = absurd (let lt = (filled_where r h).0 e in omega (arith, lt, no_pins))

  -- nor does one without a name
  pub nameless_named : (r : ℕ) (nets : List Net) → r < length conductors → (get_or c.growing.items r empty_class).least ≡ None → nets ≡ with_named nets (C r)
  nameless_named r nets h none =
      let unnamed : is_named (C r) ≡ false = named_where (get_or c.growing.items r empty_class) (C r) (are.grown r h) ∙ ap is_some none in
      by (has_pins (C r)) (is_named (C r)) unnamed
    where
      by : (a b : Bool) → b ≡ false → nets ≡ cond (a && b) (nets ++ named_net (C r) ∷ []) nets
      by true b e = rw e refl
      by false b e = refl

  -- one with both gives its own
  pub one_named : (r : ℕ) (nets more : List Net) (name : List ℕ) (body : ClassBody) (net : Net) → r < length conductors → get_or c.chains.heads.items r 0 < length c.chains.nexts.items
      → (get_or c.growing.items r empty_class).least ≡ Some name → body ≡ body_of (C r) → net ≡ net_with name sorts.Named body → more ≡ nets ++ net ∷ [] → more ≡ with_named nets (C r)
  one_named r nets more name body net h some_pin least b n pushed =
      let named : is_named (C r) ≡ true = named_where (get_or c.growing.items r empty_class) (C r) (are.grown r h) ∙ ap is_some least in
      pushed ∙ ap (λ (x : Net). nets ++ x ∷ []) (net_named (get_or c.growing.items r empty_class) (C r) name body net (are.grown r h) least b n) ∙ by (has_pins (C r)) refl (is_named (C r)) named
    where
      by : (a : Bool) → has_pins (C r) ≡ a → (b : Bool) → b ≡ true → nets ++ named_net (C r) ∷ [] ≡ cond (a && b) (nets ++ named_net (C r) ∷ []) nets
      by true e b f = rw f refl
      by false e b f = absurd (let at = (filled_where r h).1 e in omega (arith, at, some_pin))

  -- a class without a name is numbered where what was gathered of it says so
  numbered_here : (sort : NetSort) (r : ℕ) → r < length conductors → is_numbered sort (C r) ≡ is_nameless sort (get_or c.growing.items r empty_class)
  numbered_here sort r h = numbered_where sort (get_or c.growing.items r empty_class) (C r) (are.grown r h)

  left_is : (rs : List ℕ) (at r : ℕ) → at < length rs → r ≡ get_or rs at 0 → drop at rs ≡ r ∷ drop (at + 1) rs
  left_is rs at r inside e = drop_more rs at 0 inside ∙ ap (λ (x : ℕ). x ∷ drop (at + 1) rs) (sym e)

  -- bodies that are left, after one more label
  pub left_skip : (sort : NetSort) (rs : List ℕ) (at r : ℕ) → at < length rs → r ≡ get_or rs at 0 → r < length conductors → is_nameless sort (get_or c.growing.items r empty_class) ≡ false
      → bodies_of conductors labels sort (drop at rs) ≡ bodies_of conductors labels sort (drop (at + 1) rs)
  left_skip sort rs at r inside e h test =
      ap (bodies_of conductors labels sort) (left_is rs at r inside e)
      ∙ ap (λ (b : Bool). map body_of (cond b (C r ∷ filter (is_numbered sort) (map C (drop (at + 1) rs))) (filter (is_numbered sort) (map C (drop (at + 1) rs))))) (numbered_here sort r h ∙ test)

  pub left_take : (sort : NetSort) (rs : List ℕ) (at r : ℕ) (body : ClassBody) → at < length rs → r ≡ get_or rs at 0 → r < length conductors → is_nameless sort (get_or c.growing.items r empty_class) ≡ true
      → body ≡ body_of (C r) → bodies_of conductors labels sort (drop at rs) ≡ body ∷ bodies_of conductors labels sort (drop (at + 1) rs)
  left_take sort rs at r body inside e h test b =
      ap (bodies_of conductors labels sort) (left_is rs at r inside e)
      ∙ ap (λ (b : Bool). map body_of (cond b (C r ∷ filter (is_numbered sort) (map C (drop (at + 1) rs))) (filter (is_numbered sort) (map C (drop (at + 1) rs))))) (numbered_here sort r h ∙ test)
      ∙ ap (λ (x : ClassBody). x ∷ bodies_of conductors labels sort (drop (at + 1) rs)) (sym b)

-- one label more
pub named_more : (conductors : List FlatConductor) (labels : List ℕ) (n : ℕ)
    → named_of conductors labels (range_with_len 0 (n + 1)) ≡ with_named (named_of conductors labels (range_with_len 0 n)) (net_class_of (labelled_from 0 conductors labels) n)
named_more conductors labels n =
    let C = net_class_of (labelled_from 0 conductors labels) in
    let more : range_with_len 0 (n + 1) ≡ range_with_len 0 n ++ n ∷ [] =
    ap (range_with_len 0) (let e : n + 1 ≡ suc n = omega arith in e) ∙ range_more 0 n ∙ ap (λ (x : ℕ). range_with_len 0 n ++ x ∷ []) (let e : 0 + n ≡ n = omega arith in e) in
    ap (λ (rs : List ℕ). fold with_named [] (map C rs)) more
    ∙ ap (fold with_named []) (pushed C (range_with_len 0 n) n)
    ∙ fold-append with_named [] (map C (range_with_len 0 n)) (C n ∷ [])
  where
    pushed : (f : ℕ → NetClassData) (xs : List ℕ) (x : ℕ) → map f (xs ++ x ∷ []) ≡ map f xs ++ f x ∷ []
    pushed f [] x = refl
    pushed f (y ∷ xs) x = ap (λ (zs : List NetClassData). f y ∷ zs) (pushed f xs x)
