-- The classes of labels: their pins and their names are those of the conductors with that label.
use Rattle.std.proofs.Common.{◌≡◌, ℕ, zero, suc, ◌+◌, ◌<◌, ◌==◌, not, true, List, [], ◌∷◌, Option, Some, None, Contains, Ordering, length, get_or, map, filter, flat_map, refl, sym, ap, ◌∙◌, subst, inl, inr, arith, true≢false}
use Rattle.std.specs.Prelude.{All, filter_map}
use Rattle.std.specs.declared.cmp.Ordering.TheVariants.{Less, Equal, Greater}
use Rattle.std.specs.Cmp.{tied_itself}
use Rattle.std.specs.List.{AllPairs, range_with_len, slice_get}
use Rattle.std.specs.Option.{option_cmp}
use Rattle.std.specs.Ordering.{nat_cmp, ordering_then}
use Rattle.std.proofs.lemmas.Bool.{cases_eq, eq-eqb, ne_eqb}
use Rattle.std.proofs.lemmas.List.Elements.{All-cons, All-contains, All-contains_itself, All-weaker}
use Rattle.std.proofs.lemmas.List.FromFn.{get_or-range_with_len, length-range_with_len}
use Rattle.std.proofs.lemmas.Map.Lookups.{exact_bytes, exact_unsigned}
use Rattle.std.proofs.lemmas.Option.{get_or_from_slice_get, none-some, same_Some, slice_get-get_or, slice_get_within}
use Rattle.geda_defs.specs.Classes.{AreClasses, Joined}
use Rattle.geda_geom.specs.declared.conductor.Conductor.{Conductor}
use Rattle.geda_geom.proofs.TouchLemmas.{touch_turn}
use Rattle.hierarchy.proofs.ListLemmas.{all_filter_map, all_flat_map, all_none, contains_filter_map, contains_flat_map, contains_map}
use Rattle.pair_classes.proofs.LabelLemmas.{joined_back, joined_keeps, joined_then, label_inside, labels_agree}
use Rattle.pair_classes.proofs.ListLemmas.{head_is_in, none_is_in, tail_is_in}
use Rattle.flat_rows.specs.Conductors.{FlatConductor}
use Rattle.net_list.specs.declared.member.Member.{Member}
use Rattle.link_classes.specs.Links.{AreTied, AreTouching, AtPlaces, Linked, ShapesTouch, ShareName, names_of}
use Rattle.geda_defs.specs.Order.{by_bytes, once_in_order}
use Rattle.net_names.specs.NetClasses.{ClassPinData, Labelled, NetClassData, by_member, by_pin, class_pin, class_pin_of, has_pins, labelled_from, net_class_of, net_classes}
use Rattle.net_names.specs.NetLists.{by_least_pin, by_name, first_or, is_named, named_net}
use Rattle.net_names.specs.NetLaws.{IsPinAt, PrintAlike}
use Rattle.net_names.specs.steps.Orders.{by_bytes_total, by_member_total, by_name_total}
use Rattle.net_names.proofs.ApartLemmas.{apart_map, apart_weaker, as_pairs, of_filter, once_given, once_listed, once_rises}
use Rattle.net_names.proofs.InstanceLemmas.{at_places}
use Rattle.net_names.proofs.PlaceLemmas.{contains_filter, is_there, of_map}

-- ---- lists

-- what a list of lists contains, one of them contains
pub of_flat_map : {X Y : Type 0} (f : X → List Y) (xs : List X) (y : Y) → Contains (flat_map f xs) y → (x : X) × Contains xs x × Contains (f x) y
of_flat_map {X} {Y} f xs y c =
    let From : Y → Type 0 = λ y. (x : X) × Contains xs x × Contains (f x) y in
    All-contains From (flat_map f xs) y
    (all_flat_map (Contains xs) From f (λ x h. All-weaker (Contains (f x)) From (λ z g. (x, h, g)) (f x) (All-contains_itself (f x)))
    xs (All-contains_itself xs)) c

-- what is given of something there, is given of that
pub of_filter_map : {X Y : Type 0} (h : X → Option Y) (xs : List X) (y : Y) → Contains (filter_map h xs) y → (x : X) × Contains xs x × (h x ≡ Some y)
of_filter_map {X} {Y} h xs y c =
    let From : Y → Type 0 = λ y. (x : X) × Contains xs x × (h x ≡ Some y) in
    All-contains From (filter_map h xs) y (all_filter_map (Contains xs) From h (λ x y there e. (x, there, e)) xs (All-contains_itself xs)) c

-- a list that contains something is not empty
pub not_empty : {X : Type 0} (xs : List X) (x : X) → Contains xs x → not (length xs == 0) ≡ true
not_empty [] x c = none_is_in x c
not_empty (y ∷ xs) x c = rw (ne_eqb (length (y ∷ xs)) 0 (λ e. omega (arith, e))) refl

pub has_first : {X : Type 0} (xs : List X) → not (length xs == 0) ≡ true → (x : X) × (slice_get xs 0 ≡ Some x) × Contains xs x
has_first [] e = absurd (true≢false (sym e))
has_first (x ∷ xs) e = (x, refl, head_is_in x xs)

-- the first of a list that is not empty
first_in : {X : Type 0} (d : X) (xs : List X) (x : X) → Contains xs x → Contains xs (first_or d xs)
first_in d [] x c = none_is_in x c
first_in d (y ∷ xs) x c = head_is_in y xs

pub in_range : (count r : ℕ) → r < count → Contains (range_with_len 0 count) r
in_range count r h =
    let plain : 0 + r ≡ r = omega arith in
    (r, omega (arith, length-range_with_len 0 count), get_or-range_with_len 0 count r r h ∙ plain)

-- ---- orders

first_equal : (r s : Ordering) → ordering_then r s ≡ Equal → (r ≡ Equal) × (s ≡ Equal)
first_equal Less s e = absurd (let f : Less ≡ Equal = e in cc)
first_equal Equal s e = (refl, e)
first_equal Greater s e = absurd (let f : Greater ≡ Equal = e in cc)

-- pins that compare as equal print alike
pub prints_alike : (p q : ClassPinData) → by_member p q ≡ Equal → PrintAlike p.member q.member
prints_alike p q e =
    let both = first_equal (by_bytes p.member.refdes q.member.refdes) (by_bytes p.member.pin q.member.pin) e in
    (exact_bytes p.member.refdes q.member.refdes both.0, exact_bytes p.member.pin q.member.pin both.1)

-- and those that print alike compare as equal
alike_tied : (p q : ClassPinData) → PrintAlike p.member q.member → by_member p q ≡ Equal
alike_tied p q (refdes, number) =
    ap (λ (text : List ℕ). ordering_then (by_bytes p.member.refdes text) (by_bytes p.member.pin q.member.pin)) (sym refdes)
    ∙ ap (λ (r : Ordering). ordering_then r (by_bytes p.member.pin q.member.pin)) (tied_itself by_bytes_total p.member.refdes)
    ∙ ap (by_bytes p.member.pin) (sym number)
    ∙ tied_itself by_bytes_total p.member.pin

-- no two pins that are listed once print alike
listed_apart : (ps : List ClassPinData) → AllPairs (λ m n. PrintAlike m n → ⊥) (map (λ p. p.member) (once_in_order by_member ps))
listed_apart ps =
    let Unlike : Member → Member → Type 0 = λ m n. PrintAlike m n → ⊥ in
    let listed = once_in_order by_member ps in
    as_pairs Unlike (map (λ p. p.member) listed)
    (apart_map Unlike (λ p. p.member) listed
    (apart_weaker (λ p q. by_member p q ≡ Less) (λ p q. Unlike p.member q.member)
    (λ p q less alike. let e : Less ≡ Equal = sym less ∙ alike_tied p q alike in cc)
    listed (once_rises by_member_total ps)))

-- pins that compare as equal with their places stand at one
pin_place : (p q : ClassPinData) → by_pin p q ≡ Equal → p.place ≡ q.place
pin_place p q e = exact_unsigned p.place q.place (first_equal (by_member p q) (nat_cmp p.place q.place) e).1

-- ---- links go both ways

shapes_turn : (a b : Option Conductor) → ShapesTouch a b → ShapesTouch b a
shapes_turn None None t = t
shapes_turn None (Some b) t = t
shapes_turn (Some a) None t = t
shapes_turn (Some a) (Some b) t = touch_turn a b t

touching_turn : (f g : FlatConductor) → AreTouching f g → AreTouching g f
touching_turn f g t = record { together = sym t.together; touch = shapes_turn f.shape g.shape t.touch }

sharing_turn : (f g : FlatConductor) → ShareName f g → ShareName g f
sharing_turn f g (name, one, other) = (name, other, one)

tied_turn : (f g : FlatConductor) → AreTied f g → AreTied g f
tied_turn f g (inl t) = inr t
tied_turn f g (inr t) = inl t

places_turn : (R : FlatConductor → FlatConductor → Type 0) → ((f g : FlatConductor) → R f g → R g f) → (fs : List FlatConductor) (i j : ℕ)
    → AtPlaces R fs i j → AtPlaces R fs j i
places_turn R turn fs i j at = record { first = at.second; second = at.first; related = λ d. turn (get_or fs i d) (get_or fs j d) (at.related d) }

linked_turn : (fs : List FlatConductor) (i j : ℕ) → Linked fs i j → Linked fs j i
linked_turn fs i j (inl t) = inl (places_turn AreTouching touching_turn fs i j t)
linked_turn fs i j (inr (inl s)) = inr (inl (places_turn ShareName sharing_turn fs i j s))
linked_turn fs i j (inr (inr t)) = inr (inr (places_turn AreTied tied_turn fs i j t))

linked_inside : (fs : List FlatConductor) (i j : ℕ) → Linked fs i j → (i < length fs) × (j < length fs)
linked_inside fs i j (inl t) = (t.first, t.second)
linked_inside fs i j (inr (inl s)) = (s.first, s.second)
linked_inside fs i j (inr (inr t)) = (t.first, t.second)

-- ---- labelled conductors

-- it is the conductor at its place, under the label there; the lists begin at a place
record StandsAt (start : ℕ) (fs : List FlatConductor) (labels : List ℕ) (l : Labelled) : Type 0 where
  at : ℕ
  place : l.place ≡ start + at
  conductor : slice_get fs at ≡ Some l.conductor
  label : slice_get labels at ≡ Some l.label

of_labelled : (start : ℕ) (fs : List FlatConductor) (labels : List ℕ) → All (StandsAt start fs labels) (labelled_from start fs labels)
of_labelled start [] labels = all_none (StandsAt start [] labels)
of_labelled start (f ∷ fs) [] = all_none (StandsAt start (f ∷ fs) [])
of_labelled start (f ∷ fs) (label ∷ labels) =
    All-cons (StandsAt start (f ∷ fs) (label ∷ labels)) (record { place = start; label = label; conductor = f }) (labelled_from (start + 1) fs labels)
    (record { at = 0; place = omega arith; conductor = refl; label = refl })
    (All-weaker (StandsAt (start + 1) fs labels) (StandsAt start (f ∷ fs) (label ∷ labels))
    (λ l s. record { at = suc s.at; place = omega (arith, s.place); conductor = s.conductor; label = s.label })
    (labelled_from (start + 1) fs labels) (of_labelled (start + 1) fs labels))

-- the conductor at a place is there
record IsThere (start at : ℕ) (fs : List FlatConductor) (labels : List ℕ) (f : FlatConductor) (r : ℕ) : Type 0 where
  it : Labelled
  there : Contains (labelled_from start fs labels) it
  place : it.place ≡ start + at
  label : it.label ≡ r
  conductor : it.conductor ≡ f

labelled_in : (start at : ℕ) (fs : List FlatConductor) (labels : List ℕ) (f : FlatConductor) (r : ℕ) → slice_get fs at ≡ Some f
    → slice_get labels at ≡ Some r → IsThere start at fs labels f r
labelled_in start at [] labels f r e h = absurd (none-some f e)
labelled_in start at (g ∷ fs) [] f r e h = absurd (none-some r h)
labelled_in start zero (g ∷ fs) (s ∷ labels) f r e h = record {
  it = record { place = start; label = s; conductor = g };
  there = head_is_in (record { place = start; label = s; conductor = g }) (labelled_from (start + 1) fs labels);
  place = omega arith;
  label = same_Some s r h;
  conductor = same_Some g f e;
}
labelled_in start (suc at) (g ∷ fs) (s ∷ labels) f r e h =
    let rest = labelled_in (start + 1) at fs labels f r e h in
    record {
      it = rest.it;
      there = tail_is_in (record { place = start; label = s; conductor = g }) (labelled_from (start + 1) fs labels) rest.it rest.there;
      place = omega (arith, rest.place);
      label = rest.label;
      conductor = rest.conductor;
    }

module _ (fs : List FlatConductor) (labels : List ℕ) (are : AreClasses (Linked fs) (length fs) labels) where
  abbrev pub all : List Labelled
  all = labelled_from 0 fs labels

  -- those with a label
  abbrev under : ℕ → List Labelled
  under r = filter (λ l. l.label == r) all

  -- the class of a label
  abbrev pub class : ℕ → NetClassData
  class r = net_class_of all r

  label_at : (i : ℕ) → i < length fs → slice_get labels i ≡ Some (get_or labels i 0)
  label_at i h = slice_get-get_or labels i 0 (omega (arith, are.len))

  same_label : (a b : ℕ) → (a == b) ≡ true → a ≡ b
  same_label a b e = elim (cases_eq a b) [ inl same ↦ same | inr other ↦ absurd (true≢false (sym e ∙ ne_eqb a b other)) ]

  -- what stands under a label
  under_is : (r : ℕ) (l : Labelled) → Contains (under r) l → (slice_get fs l.place ≡ Some l.conductor) × (slice_get labels l.place ≡ Some r)
  under_is r l c =
      let both = of_filter (λ (l : Labelled). l.label == r) all l c in
      let stands = All-contains (StandsAt 0 fs labels) all l (of_labelled 0 fs labels) both.0 in
      let at : stands.at ≡ l.place = omega (arith, stands.place) in
      let label : l.label ≡ r = same_label l.label r both.1 in
      (ap (slice_get fs) (sym at) ∙ stands.conductor, ap (slice_get labels) (sym at) ∙ stands.label ∙ ap (λ (n : ℕ). Some n) label)

  -- linked conductors have one label
  linked_labels : (i j r s : ℕ) → Linked fs i j → slice_get labels i ≡ Some r → slice_get labels j ≡ Some s → r ≡ s
  linked_labels i j r s link first second =
      let inside = linked_inside fs i j link in
      let agree = labels_agree (Linked fs) (length fs) labels are (linked_turn fs) i j inside.0 inside.1 link in
      sym (get_or_from_slice_get labels i r 0 first) ∙ agree ∙ get_or_from_slice_get labels j s 0 second

  -- two places have one label exactly where a chain of links leads from one to the other
  pub labels_are : (i j : ℕ) → i < length fs → j < length fs → (get_or labels i 0 ≡ get_or labels j 0
      → Joined (Linked fs) i j) × (Joined (Linked fs) i j → get_or labels i 0 ≡ get_or labels j 0)
  labels_are i j first second = (
    λ same. joined_then (Linked fs) i (get_or labels i 0) j (are.chain i first)
        (subst (λ (n : ℕ). Joined (Linked fs) n j) (sym same) (joined_back (Linked fs) (linked_turn fs) j (get_or labels j 0) (are.chain j second))),
    λ joined. joined_keeps (Linked fs) (λ k. get_or labels k 0)
        (λ a b link.
        let inside = linked_inside fs a b link in
        labels_agree (Linked fs) (length fs) labels are (linked_turn fs) a b inside.0 inside.1 link) i j joined,
  )

  -- the pins under a label, as they come
  abbrev pins_under : ℕ → List ClassPinData
  pins_under r = filter_map class_pin_of (under r)

  some_pin : (place : ℕ) (o : Option Member) (p : ClassPinData) → class_pin place o ≡ Some p → (p.place ≡ place) × (o ≡ Some p.member)
  some_pin place None p e = absurd (none-some p e)
  some_pin place (Some m) p e =
      let same = same_Some (record { place = place; member = m }) p e in
      (ap (λ (q : ClassPinData). q.place) (sym same), ap (λ (q : ClassPinData). Some q.member) same)

  -- no two pins of a class print alike
  pub class_apart : (r : ℕ) → AllPairs (λ m n. PrintAlike m n → ⊥) (map (λ p. p.member) (class r).pins)
  class_apart r = listed_apart (pins_under r)

  -- each pin of a class stands at its place, under the label
  pub pin_is : (r : ℕ) (p : ClassPinData) → Contains (class r).pins p → IsPinAt fs p.place p.member × (slice_get labels p.place ≡ Some r)
  pin_is r p c =
      let l = of_filter_map class_pin_of (under r) p (once_given by_member_total (pins_under r) p c) in
      let is = under_is r l.0 l.1 in
      let pin = some_pin l.0.place l.0.conductor.member p l.2 in (
        record { conductor = l.0.conductor; stands = ap (slice_get fs) pin.0 ∙ is.0; prints = pin.1 },
        ap (slice_get labels) pin.0 ∙ is.1,
      )

  -- of each pin under the label, the class has one that prints alike
  pub has_pin : (i : ℕ) (pin : Member) → IsPinAt fs i pin → (p : ClassPinData) × Contains (class (get_or labels i 0)).pins p × PrintAlike pin p.member
  has_pin i pin is =
      let r = get_or labels i 0 in
      let l = labelled_in 0 i fs labels is.conductor r is.stands (label_at i (slice_get_within fs i is.conductor is.stands)) in
      let here : Contains (under r) l.it = contains_filter (λ (l : Labelled). l.label == r) all l.it l.there (eq-eqb l.it.label r l.label) in
      let mine : ClassPinData = record { place = l.it.place; member = pin } in
      let given : class_pin_of l.it ≡ Some mine = ap (class_pin l.it.place) (ap (λ (f : FlatConductor). f.member) l.conductor ∙ is.prints) in
      let listed = once_listed by_member_total (pins_under r) mine (contains_filter_map class_pin_of (under r) l.it mine here given) in
      (listed.0, listed.1, prints_alike mine listed.0 listed.2)

  -- a name of a class is that of a conductor under the label
  name_of_class : (r : ℕ) (name : List ℕ) → Contains (class r).names name
      → (l : Labelled) × Contains (under r) l × Contains (names_of l.conductor) name
  name_of_class r name c = of_flat_map (λ (l : Labelled). names_of l.conductor) (under r) name c

  -- the name under which a class prints is one of its names
  pub printed_name : (c : NetClassData) → is_named c ≡ true → Contains c.names (named_net c).name
  printed_name c e =
      let first = has_first c.names e in
      let listed = once_listed by_name_total c.names first.0 first.2 in
      once_given by_name_total c.names (named_net c).name (first_in [] (once_in_order by_name c.names) listed.0 listed.1)

  -- and so a name of a conductor
  pub name_is_used : (r : ℕ) → is_named (class r) ≡ true → Contains (flat_map names_of fs) (named_net (class r)).name
  name_is_used r e =
      let name = (named_net (class r)).name in
      let l = name_of_class r name (printed_name (class r) e) in
      let at = (under_is r l.0 l.1).0 in
      contains_flat_map names_of fs l.0.conductor name (is_there fs l.0.place l.0.conductor at) l.2

  -- two classes that print under one name are one
  pub one_name : (r s : ℕ) → is_named (class r) ≡ true → is_named (class s) ≡ true
      → (named_net (class r)).name ≡ (named_net (class s)).name → r ≡ s
  one_name r s e f same =
      let name = (named_net (class r)).name in
      let l = name_of_class r name (printed_name (class r) e) in
      let m = name_of_class s name (subst (Contains (class s).names) (sym same) (printed_name (class s) f)) in
      let at = under_is r l.0 l.1 in
      let to = under_is s m.0 m.1 in
      let share : ShareName l.0.conductor m.0.conductor = (name, l.2, m.2) in
      linked_labels l.0.place m.0.place r s (inr (inl (at_places ShareName fs l.0.place m.0.place l.0.conductor m.0.conductor at.0 to.0 share))) at.1 to.1

  -- two classes with one least pin are one
  pub one_least_pin : (r s : ℕ) → has_pins (class r) ≡ true → has_pins (class s) ≡ true → by_least_pin (class r) (class s) ≡ Equal → r ≡ s
  one_least_pin r s e f tie =
      let p = has_first (class r).pins e in
      let q = has_first (class s).pins f in
      let pins : by_pin p.0 q.0 ≡ Equal =
      ap (λ (o : Option ClassPinData). option_cmp by_pin o (Some q.0)) (sym p.1) ∙ ap (option_cmp by_pin (slice_get (class r).pins 0)) (sym q.1) ∙ tie in
      let place = pin_place p.0 q.0 pins in
      same_Some r s (sym (pin_is r p.0 p.2).1 ∙ ap (slice_get labels) place ∙ (pin_is s q.0 q.2).1)

  -- one class is that of one label
  pub one_class : (r s : ℕ) → has_pins (class r) ≡ true → class r ≡ class s → r ≡ s
  one_class r s e same =
      let p = has_first (class r).pins e in
      let there : Contains (class s).pins p.0 = subst (λ (c : NetClassData). Contains c.pins p.0) same p.2 in
      same_Some r s (sym (pin_is r p.0 p.2).1 ∙ (pin_is s p.0 there).1)

  -- the classes that have members
  abbrev pub classes : List NetClassData
  classes = net_classes all (length fs)

  pub class_is : (c : NetClassData) → Contains classes c → (r : ℕ) × (class r ≡ c) × (has_pins c ≡ true)
  class_is c there =
      let both = of_filter has_pins (map class (range_with_len 0 (length fs))) c there in
      let r = of_map class (range_with_len 0 (length fs)) c both.0 in
      (r.0, r.2, both.1)

  pub is_class : (r : ℕ) → has_pins (class r) ≡ true → Contains classes (class r)
  is_class r e =
      let p = has_first (class r).pins e in
      let label = (pin_is r p.0 p.2).1 in
      let here = slice_get_within labels p.0.place r label in
      let small : get_or labels p.0.place 0 < length fs = label_inside (Linked fs) (length fs) labels are p.0.place here in
      let within : r < length fs = subst (λ (n : ℕ). n < length fs) (get_or_from_slice_get labels p.0.place r 0 label) small in
      let range = range_with_len 0 (length fs) in
      contains_filter has_pins (map class range) (class r) (contains_map class range r (in_range (length fs) r within)) e
