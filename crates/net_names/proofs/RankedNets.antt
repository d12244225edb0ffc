-- The nets of a project by one order of all pins: members of each class, and classes by their least pins.
use Rattle.std.proofs.Common.{◌≡◌, ℕ, suc, ◌+◌, ◌<◌, ◌==◌, ◌&&◌, not, Bool, true, false, cond, List, [], ◌∷◌, ◌++◌, length, map, get_or, Option, Some, None, Ordering, refl, sym, ap, ◌∙◌, arith}
use Rattle.std.specs.Prelude.{filter, is_some, slice_get, slice_index}
use Rattle.std.specs.declared.cmp.Ordering.TheVariants.{Less, Equal}
use Rattle.std.specs.Ordering.{eq_by_cmp, nat_cmp, on}
use Rattle.std.specs.Option.{option_to_list}
use Rattle.std.specs.List.{cons_option, dedup, dedup_from, filter_map, list_any, range_with_len, AllByRecursion}
use Rattle.std.specs.List.Sorted.{IsStrictlySortedBy}
use Rattle.std.specs.Cmp.{IsTotalOrder, on_total, nat_cmp_total}
use Rattle.std.proofs.lemmas.Bool.{eqb-true, eq-eqb, lt-ltb, ne_eqb}
use Rattle.std.proofs.lemmas.Map.Lookups.{exact_unsigned}
use Rattle.net_list.specs.declared.member.Member.{Member}
use Rattle.flat_rows.specs.Conductors.{FlatConductor}
use Rattle.flat_rows.specs.Keyed.{keyed_at, keyed_from}
use Rattle.geda_defs.specs.Order.{once_in_order}
use Rattle.geda_defs.proofs.OnceLaws.{is_once_in_order}
use Rattle.net_names.specs.NetClasses.{labelled_from, ClassPinData, class_pin, class_pin_of, by_member, by_pin, NetClassData, net_class_of, net_classes, has_pins}
use Rattle.net_names.specs.NetLists.{least_pin, by_least_pin}
use Rattle.net_names.specs.steps.Orders.{by_member_total, by_pin_total}
use Rattle.net_names.specs.steps.Pins.{pins_in_order, placed_pin}
use Rattle.rank_order.specs.Classes.{by_least, least_of, met}
use Rattle.rank_order.proofs.OrderLemmas.{all_moved, all_once, once_agrees}
use Rattle.rank_order.proofs.RankLemmas.{has_range, then_equal}
use Rattle.rank_order.proofs.MemberLemmas.{part_in_order}
use Rattle.rank_order.proofs.ClassLemmas.{classes_in_order}

-- pins by their places
abbrev pub by_place : ClassPinData → ClassPinData → Ordering
by_place = on (λ p. p.place) nat_cmp

pub by_place_total : IsTotalOrder by_place
by_place_total = on_total (λ p. p.place) nat_cmp_total

-- all pins of conductors, the first of which has this place
abbrev pins_from : ℕ → List FlatConductor → List ℕ → List ClassPinData
pins_from place conductors labels = filter_map class_pin_of (labelled_from place conductors labels)

-- a fact of each pin, from that of each place
pub all_pins : (P : ℕ → Type 0) (s : ℕ) (cs : List FlatConductor) (labels : List ℕ) → ((j p : ℕ) → j < length cs → j < length labels → p ≡ s + j → P p) → AllByRecursion (λ p. P p.place) (pins_from s cs labels)
all_pins P s [] labels h = tt
all_pins P s (c ∷ cs) [] h = tt
all_pins P s (c ∷ cs) (l ∷ labels) h = by c.member (all_pins P (s + 1) cs labels (λ j p a b e. h (suc j) p (omega (arith, a)) (omega (arith, b)) (omega (arith, e))))
  where
    by : (m : Option Member) → AllByRecursion (λ p. P p.place) (pins_from (s + 1) cs labels)
        → AllByRecursion (λ p. P p.place) (cons_option (class_pin s m) (pins_from (s + 1) cs labels))
    by None rest = rest
    by (Some m) rest = (h 0 s (omega arith) (omega arith) (omega arith), rest)

-- they rise by place
pub pins_rise : (s : ℕ) (cs : List FlatConductor) (labels : List ℕ) → IsStrictlySortedBy by_place (pins_from s cs labels)
unfolding IsStrictlySortedBy
pins_rise s [] labels = tt
pins_rise s (c ∷ cs) [] = tt
pins_rise s (c ∷ cs) (l ∷ labels) = by c.member (pins_rise (s + 1) cs labels) (all_pins (λ p. nat_cmp s p ≡ Less) (s + 1) cs labels (λ j p a b e. rw (lt-ltb s p (omega (arith, e))) refl))
  where
    by : (m : Option Member) → IsStrictlySortedBy by_place (pins_from (s + 1) cs labels) → AllByRecursion (λ p. nat_cmp s p.place ≡ Less) (pins_from (s + 1) cs labels)
        → IsStrictlySortedBy by_place (cons_option (class_pin s m) (pins_from (s + 1) cs labels))
    by None rest a = rest
    by (Some m) rest a = (a, rest)

-- the pins of a label are those whose place has it
pins_of_label : (R : ℕ → ℕ) (s : ℕ) (cs : List FlatConductor) (labels : List ℕ) (r : ℕ) → ((j p : ℕ) → j < length labels → p ≡ s + j → R p ≡ get_or labels j 0)
    → filter_map class_pin_of (filter (λ l. l.label == r) (labelled_from s cs labels)) ≡ filter (λ p. R p.place == r) (pins_from s cs labels)
pins_of_label R s [] labels r h = refl
pins_of_label R s (c ∷ cs) [] r h = refl
pins_of_label R s (c ∷ cs) (l ∷ labels) r h =
    split (l == r) ∙ by (l == r) refl c.member (pins_of_label R (s + 1) cs labels r (λ j p a e. h (suc j) p (omega (arith, a)) (omega (arith, e))))
  where
    own : R s ≡ l
    own = h 0 s (omega arith) (omega arith)

    split : (b : Bool) → filter_map class_pin_of (cond b (record { place = s; label = l; conductor = c } ∷ filter (λ l. l.label == r) (labelled_from (s + 1) cs labels)) (filter (λ l. l.label == r) (labelled_from (s + 1) cs labels)))
        ≡ cond b (cons_option (class_pin s c.member) (filter_map class_pin_of (filter (λ l. l.label == r) (labelled_from (s + 1) cs labels)))) (filter_map class_pin_of (filter (λ l. l.label == r) (labelled_from (s + 1) cs labels)))
    split true = refl
    split false = refl

    by : (b : Bool) → (l == r) ≡ b → (m : Option Member)
        → filter_map class_pin_of (filter (λ l. l.label == r) (labelled_from (s + 1) cs labels)) ≡ filter (λ p. R p.place == r) (pins_from (s + 1) cs labels)
        → cond b (cons_option (class_pin s m) (filter_map class_pin_of (filter (λ l. l.label == r) (labelled_from (s + 1) cs labels)))) (filter_map class_pin_of (filter (λ l. l.label == r) (labelled_from (s + 1) cs labels)))
        ≡ filter (λ p. R p.place == r) (cons_option (class_pin s m) (pins_from (s + 1) cs labels))
    by true e None g = g
    by false e None g = g
    by true e (Some m) g = rw (own, e) (ap (λ (ps : List ClassPinData). (record { place = s; member = m }) ∷ ps) g)
    by false e (Some m) g = rw (own, e) g

head_dedup : (same : ClassPinData → ClassPinData → Bool) (k : ClassPinData) (xs : List ClassPinData) → slice_get (dedup_from same k xs) 0 ≡ Some k
head_dedup same k [] = refl
head_dedup same k (x ∷ xs) = by (same x k) (head_dedup same k xs)
  where
    by : (b : Bool) → slice_get (dedup_from same k xs) 0 ≡ Some k → slice_get (cond b (dedup_from same k xs) (k ∷ dedup_from same x xs)) 0 ≡ Some k
    by true h = h
    by false h = refl

first_dedup : (same : ClassPinData → ClassPinData → Bool) (xs : List ClassPinData) → slice_get (dedup same xs) 0 ≡ slice_get xs 0
first_dedup same [] = refl
first_dedup same (x ∷ xs) = head_dedup same x xs

turn : (a b : ℕ) → (a == b) ≡ (b == a)
turn a b = by (a == b) refl (b == a) refl
  where
    by : (x : Bool) → (a == b) ≡ x → (y : Bool) → (b == a) ≡ y → x ≡ y
    by true e true f = refl
    by false e false f = refl
    by true e false f = sym (eq-eqb b a (sym (eqb-true a b e))) ∙ f
    by false e true f = sym e ∙ eq-eqb a b (sym (eqb-true b a f))

first_filter : (label : ClassPinData → ℕ) (r : ℕ) (xs : List ClassPinData) → slice_get (filter (λ p. label p == r) xs) 0 ≡ least_of label xs r
first_filter label r [] = refl
first_filter label r (x ∷ xs) = by (label x == r) (r == label x) (turn (label x) r) (first_filter label r xs)
  where
    by : (b d : Bool) → b ≡ d → slice_get (filter (λ p. label p == r) xs) 0 ≡ least_of label xs r
        → slice_get (cond b (x ∷ filter (λ p. label p == r) xs) (filter (λ p. label p == r) xs)) 0 ≡ cond d (Some x) (least_of label xs r)
    by true d e h = rw (sym e) refl
    by false d e h = rw (sym e) h

pub some_first : (xs : List ClassPinData) → not (length xs == 0) ≡ is_some (slice_get xs 0)
some_first [] = refl
some_first (x ∷ xs) = ap not (ne_eqb (suc (length xs)) 0 (λ e. omega (arith, e)))

filter_map_list : {A B : Type 0} (h t : B → Bool) (f : A → B) (xs : List A) → filter t (filter h (map f xs)) ≡ map f (filter (λ x. h (f x) && t (f x)) xs)
filter_map_list h t f [] = refl
filter_map_list {A} {B} h t f (x ∷ xs) = by (h (f x)) (t (f x)) refl (filter_map_list h t f xs)
  where
    by : (b d : Bool) → d ≡ t (f x) → filter t (filter h (map f xs)) ≡ map f (filter (λ x. h (f x) && t (f x)) xs)
        → filter t (cond b (f x ∷ filter h (map f xs)) (filter h (map f xs))) ≡ map f (cond (b && d) (x ∷ filter (λ x. h (f x) && t (f x)) xs) (filter (λ x. h (f x) && t (f x)) xs))
    by true true e g = rw (sym e) (ap (λ (ys : List B). f x ∷ ys) g)
    by true false e g = rw (sym e) g
    by false d e g = g

filter_same : (t s : ℕ → Bool) → ((x : ℕ) → t x ≡ s x) → (xs : List ℕ) → filter t xs ≡ filter s xs
filter_same t s h [] = refl
filter_same t s h (x ∷ xs) = rw (h x, filter_same t s h xs) refl

all_true : {A : Type 0} (xs : List A) → AllByRecursion (λ _. Unit {0}) xs
all_true [] = tt
all_true (x ∷ xs) = (tt, all_true xs)

-- the pins of members are those of labelled conductors
pub pins_are : (s : ℕ) (cs : List FlatConductor) (labels : List ℕ) → length labels ≡ length cs → map placed_pin (keyed_from (λ c. option_to_list c.member) s cs) ≡ pins_from s cs labels
pins_are s [] [] h = refl
pins_are s [] (l ∷ labels) h = refl
pins_are s (c ∷ cs) [] h = absurd (omega (arith, h))
pins_are s (c ∷ cs) (l ∷ labels) h = by c.member (pins_are (s + 1) cs labels (omega (arith, h)))
  where
    by : (m : Option Member) → map placed_pin (keyed_from (λ c. option_to_list c.member) (s + 1) cs) ≡ pins_from (s + 1) cs labels
        → map placed_pin (keyed_at s (option_to_list m) ++ keyed_from (λ c. option_to_list c.member) (s + 1) cs) ≡ cons_option (class_pin s m) (pins_from (s + 1) cs labels)
    by None g = g
    by (Some m) g = ap (λ (ps : List ClassPinData). (record { place = s; member = m }) ∷ ps) g

module _ (conductors : List FlatConductor) (labels : List ℕ) (same_count : length labels ≡ length conductors) where
  -- all pins, by refdes, number and place
  abbrev pub ordered : List ClassPinData
  ordered = once_in_order by_pin (pins_from 0 conductors labels)

  pub ordered_are : pins_in_order conductors ≡ ordered
  ordered_are = ap (once_in_order by_pin) (pins_are 0 conductors labels same_count)

  -- the label of a pin
  abbrev pub label : ClassPinData → ℕ
  label p = slice_index labels p.place

  abbrev C : ℕ → NetClassData
  C = net_class_of (labelled_from 0 conductors labels)

  -- the pins of a class are those of all pins in order that have its label, of one refdes and number the first
  pub class_pins : (r : ℕ) → (C r).pins ≡ dedup (eq_by_cmp by_member) (filter (λ p. label p == r) ordered)
  class_pins r =
      ap (once_in_order by_member) (pins_of_label (slice_index labels) 0 conductors labels r (λ j p a e. ap (slice_index labels) (let f : p ≡ j = omega (arith, e) in f)))
      ∙ sym (part_in_order by_member_total by_place_total (λ p. label p == r) (pins_from 0 conductors labels) (pins_rise 0 conductors labels))

  -- its least pin is the first of them
  pub class_least : (r : ℕ) → least_pin (C r) ≡ least_of label ordered r
  class_least r = ap (λ (ps : List ClassPinData). slice_get ps 0) (class_pins r) ∙ first_dedup (eq_by_cmp by_member) (filter (λ p. label p == r) ordered) ∙ first_filter label r ordered

  -- classes with pins that pass a test, in order of their least pins, are those that are met in order of all pins
  pub classes_met : (t : NetClassData → Bool) → ((i : ℕ) → i < length labels → slice_index labels i < length conductors)
      → once_in_order by_least_pin (filter t (net_classes (labelled_from 0 conductors labels) (length conductors))) ≡ map C (filter (λ r. t (C r)) (met label ordered))
  classes_met t below =
      let n = length conductors in
      let rs = range_with_len 0 n in
      let pins = pins_from 0 conductors labels in
      let inside : AllByRecursion (λ p. slice_index labels p.place < n) ordered = all_once (λ p. slice_index labels p.place < n) by_pin pins (all_pins (λ p. slice_index labels p < n) 0 conductors labels (λ j p a b e. below p (omega (arith, b, e)))) in
      let given : AllByRecursion (λ p. list_any (λ q. label p == q) rs ≡ true) ordered = all_moved (λ p. label p < n) (λ p. list_any (λ q. label p == q) rs ≡ true) (λ p h. has_range (label p) 0 n (omega arith) (omega (arith, h))) ordered inside in
      let told : (x y : ClassPinData) → by_pin x y ≡ Equal → label x ≡ label y = λ x y e. ap (slice_index labels) (exact_unsigned x.place y.place (then_equal _ _ e)) in
      let passing : ℕ → Bool = λ r. is_some (least_of label ordered r) && t (C r) in
      ap (once_in_order by_least_pin) (filter_map_list has_pins t C rs ∙ ap (map C) (filter_same (λ r. has_pins (C r) && t (C r)) passing (λ r. ap (λ (b : Bool). b && t (C r)) (some_first (C r).pins ∙ ap is_some (class_least r))) rs))
      ∙ sym (once_agrees (λ _. Unit {0}) C (by_least by_pin label ordered) by_least_pin
      (λ a b _ _. let x = class_least a in let y = class_least b in rw (x, y) refl) (filter passing rs) (all_true (filter passing rs)))
      ∙ ap (map C) (sym (classes_in_order by_pin_total label ordered (is_once_in_order by_pin_total pins).rising told rs (λ r. t (C r)) given))

  -- a class has pins where some pin has its label
  pub class_filled : (r : ℕ) → has_pins (C r) ≡ is_some (least_of label ordered r)
  class_filled r = some_first (C r).pins ∙ ap is_some (class_least r)
