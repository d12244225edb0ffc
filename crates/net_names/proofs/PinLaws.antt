-- Each pin of a listed part has one net, that of its class: the nets stand in the order of classes
-- of which each stands once, and no class that has members is left out.
use Rattle.std.proofs.Common.{◌≡◌, ◌≢◌, ℕ, ◌≤◌, ◌<◌, ◌&&◌, not, Bool, true, false, List, [], ◌∷◌, ◌++◌, Some, Contains, length, get_or, map, filter, flat_map, codes, refl, sym, ap, ◌∙◌, subst, arith, true≢false}
use Rattle.std.specs.Prelude.{All}
use Rattle.std.specs.declared.cmp.Ordering.{Ordering}
use Rattle.std.specs.declared.cmp.Ordering.TheVariants.{Less, Equal}
use Rattle.std.specs.Cmp.{IsTotalOrder, on_total}
use Rattle.std.specs.List.{AllPairs, AllZip, Any, slice_get}
use Rattle.std.specs.Ordering.{on}
use Rattle.std.proofs.lemmas.List.{length-map}
use Rattle.std.proofs.lemmas.List.Elements.{All-append, All-contains, All-contains_itself, All-weaker, Contains-append_left, Contains-append_right}
use Rattle.std.proofs.lemmas.Map.Lookups.{exact_bytes}
use Rattle.std.proofs.lemmas.Option.{get_or_from_slice_get, same_Some, slice_get_within}
use Rattle.geda_defs.specs.Classes.{AreClasses}
use Rattle.hierarchy.proofs.ListLemmas.{contains_map}
use Rattle.flat_rows.specs.Conductors.{FlatConductor}
use Rattle.net_list.specs.declared.member.Member.{Member}
use Rattle.link_classes.specs.Links.{Linked, names_of}
use Rattle.geda_defs.specs.Order.{once_in_order}
use Rattle.net_list.specs.declared.nets.Net.{Net}
use Rattle.net_list.specs.declared.nets.NetSort.{NetSort}
use Rattle.net_list.specs.declared.nets.NetSort.TheVariants as sorts
use Rattle.net_names.specs.NetClasses.{NetClassData, has_pins}
use Rattle.net_names.specs.NetLists.{AreCountable, by_least_pin, free_numbers, is_named, is_unconnected, is_unnamed, named_net, nets_by, numbered, numbered_nets}
use Rattle.net_names.specs.NetLaws.{EachPinHasOneNet, IsPinAt, IsPinOf, PrintAlike}
use Rattle.net_names.specs.steps.Orders.{by_least_pin_total, by_net_name, by_net_name_total}
use Rattle.net_names.proofs.ApartLemmas.{Apart, all_cross, apart_append, apart_weaker, below_differs, of_filter, once_given, once_keeps, once_map, once_rises, one_place, zip_append, zip_first, zip_second}
use Rattle.net_names.proofs.ClassLemmas.{class, class_apart, class_is, classes, has_first, has_pin, is_class, labels_are, not_empty, one_class, one_least_pin, one_name, pin_is}
use Rattle.net_names.proofs.FreeNumbers.{numbers_suffice}
use Rattle.net_names.proofs.NameLaws.{AreNamedApart, few, names_apart}
use Rattle.net_names.proofs.NumberingLemmas.{length_fold}
use Rattle.net_names.proofs.PlaceLemmas.{contains_filter, is_there, of_map, place_in}

-- the members of the net are the pins of the class
abbrev HasPinsOf : Net → NetClassData → Type 0
HasPinsOf net c = net.members ≡ map (λ p. p.member) c.pins

-- named nets stand beside their classes
named_beside : (cs : List NetClassData) → AllZip HasPinsOf (map named_net cs) cs
named_beside [] = tt
named_beside (c ∷ cs) = (refl, named_beside cs)

-- and so do numbered ones, where there are numbers enough
numbered_beside : (prefix : List ℕ) (sort : NetSort) (ns : List ℕ) (cs : List NetClassData) → length cs ≤ length ns
    → AllZip HasPinsOf (numbered prefix sort ns cs) cs
numbered_beside prefix sort [] [] enough = tt
numbered_beside prefix sort [] (c ∷ cs) enough = absurd (omega (arith, enough))
numbered_beside prefix sort (n ∷ ns) [] enough = tt
numbered_beside prefix sort (n ∷ ns) (c ∷ cs) enough = (refl, numbered_beside prefix sort ns cs (omega (arith, enough)))

-- the classes in order of the names under which they print
abbrev by_printed_name : NetClassData → NetClassData → Ordering
by_printed_name = on named_net by_net_name

-- a net that stands for none
no_net : Net
no_net = record { name = []; sort = sorts.Named; global = false; directive = false; members = [] }

-- a class with a name is no other one, and one without is not of both kinds
named_not_unnamed : (c : NetClassData) → is_named c ≡ true → is_unnamed c ≡ false
named_not_unnamed c e = rw e refl

named_not_unconnected : (c : NetClassData) → is_named c ≡ true → is_unconnected c ≡ false
named_not_unconnected c e = rw e refl

not_both : (n s : Bool) → (not n && not s) ≡ true → (not n && s) ≡ false
not_both true s e = refl
not_both false true e = absurd (true≢false (sym e))
not_both false false e = refl

-- tests that exclude one another tell classes apart
tests_differ : (first second : NetClassData → Bool) → ((c : NetClassData) → first c ≡ true → second c ≡ false) → (a b : NetClassData)
    → first a ≡ true → second b ≡ true → a ≢ b
tests_differ first second exclude a b e f same = true≢false (sym f ∙ ap second (sym same) ∙ exclude a e)

module _ (fs : List FlatConductor) (labels : List ℕ) (are : AreClasses (Linked fs) (length fs) labels) (countable : AreCountable fs) where
  -- the class of a label, and all classes that have members
  abbrev under : ℕ → NetClassData
  under = class fs labels are

  abbrev all : List NetClassData
  all = classes fs labels are

  by_printed_name_total : IsTotalOrder by_printed_name
  by_printed_name_total = on_total named_net by_net_name_total

  abbrev named : List NetClassData
  named = once_in_order by_printed_name (filter is_named all)

  abbrev unnamed : List NetClassData
  unnamed = once_in_order by_least_pin (filter is_unnamed all)

  abbrev unconnected : List NetClassData
  unconnected = once_in_order by_least_pin (filter is_unconnected all)

  -- the classes as their nets stand
  abbrev order : List NetClassData
  order = named ++ unnamed ++ unconnected

  abbrev nets : List Net
  nets = nets_by fs labels

  -- the nets that are numbered
  abbrev others : List ℕ → NetSort → (NetClassData → Bool) → List Net
  others prefix sort test = numbered_nets prefix sort (flat_map names_of fs) (filter test all)

  others_beside : (prefix : List ℕ) (sort : NetSort) (test : NetClassData → Bool)
      → AllZip HasPinsOf (others prefix sort test) (once_in_order by_least_pin (filter test all))
  others_beside prefix sort test =
      let count = length (filter test all) in
      let numbers = free_numbers prefix (flat_map names_of fs) count in
      let enough = numbers_suffice prefix (flat_map names_of fs) count (few fs labels are countable test) in
      let once = length_fold by_least_pin [] (filter test all) in
      numbered_beside prefix sort numbers (once_in_order by_least_pin (filter test all)) (omega (arith, enough, once))

  -- the nets stand beside their classes
  beside : AllZip HasPinsOf nets order
  beside =
      let second = others (codes "unnamed_net") sorts.Unnamed is_unnamed in
      let third = others (codes "unconnected_pin-") sorts.Unconnected is_unconnected in
      let given = filter is_named all in
      let first_beside = subst (λ (ns : List Net). AllZip HasPinsOf ns named) (sym (once_map by_net_name named_net given)) (named_beside named) in
      let second_beside = others_beside (codes "unnamed_net") sorts.Unnamed is_unnamed in
      let third_beside = others_beside (codes "unconnected_pin-") sorts.Unconnected is_unconnected in
      zip_append HasPinsOf _ third (named ++ unnamed) unconnected (zip_append HasPinsOf _ second named unnamed first_beside second_beside) third_beside

  -- classes that print under one name are the same
  same_named : (x y : NetClassData) → Contains (filter is_named all) x → Contains (filter is_named all) y
      → by_printed_name x y ≡ Equal → x ≡ y
  same_named x y c d tie =
      let a = of_filter is_named all x c in
      let b = of_filter is_named all y d in
      let r = class_is fs labels are x a.0 in
      let s = class_is fs labels are y b.0 in
      let name = exact_bytes (named_net x).name (named_net y).name tie in
      let one : r.0 ≡ s.0 = one_name fs labels are r.0 s.0 (ap is_named r.1 ∙ a.1) (ap is_named s.1 ∙ b.1)
      (ap (λ (k : NetClassData). (named_net k).name) r.1 ∙ name ∙ sym (ap (λ (k : NetClassData). (named_net k).name) s.1)) in
      sym r.1 ∙ ap under one ∙ s.1

  -- and so are classes with one least pin
  same_least : (test : NetClassData → Bool) (x y : NetClassData) → Contains (filter test all) x → Contains (filter test all) y
      → by_least_pin x y ≡ Equal → x ≡ y
  same_least test x y c d tie =
      let r = class_is fs labels are x (of_filter test all x c).0 in
      let s = class_is fs labels are y (of_filter test all y d).0 in
      let least : by_least_pin (under r.0) (under s.0) ≡ Equal =
      ap (λ (k : NetClassData). by_least_pin k (under s.0)) r.1 ∙ ap (by_least_pin x) s.1 ∙ tie in
      let one : r.0 ≡ s.0 = one_least_pin fs labels are r.0 s.0 (ap has_pins r.1 ∙ r.2) (ap has_pins s.1 ∙ s.2) least in
      sym r.1 ∙ ap under one ∙ s.1

  -- no class is left out
  in_order : (c : NetClassData) → Contains all c → Contains order c
  in_order c there = by (is_named c) c.is_single_pin refl refl
    where
      by : (n s : Bool) → is_named c ≡ n → c.is_single_pin ≡ s → Contains order c
      by true s e f =
          Contains-append_left (named ++ unnamed) unconnected c (Contains-append_left named unnamed c
          (once_keeps by_printed_name_total (filter is_named all) same_named c (contains_filter is_named all c there e)))
      by false false e f =
          let passes : is_unnamed c ≡ true = rw (e, f) refl in
          Contains-append_left (named ++ unnamed) unconnected c (Contains-append_right named unnamed c
          (once_keeps by_least_pin_total (filter is_unnamed all) (same_least is_unnamed) c (contains_filter is_unnamed all c there passes)))
      by false true e f =
          let passes : is_unconnected c ≡ true = rw (e, f) refl in
          Contains-append_right (named ++ unnamed) unconnected c
          (once_keeps by_least_pin_total (filter is_unconnected all) (same_least is_unconnected) c (contains_filter is_unconnected all c there passes))

  -- one that has members, and passes
  abbrev Passes : (NetClassData → Bool) → NetClassData → Type 0
  Passes test c = Contains all c × (test c ≡ true)

  -- each one that is listed passes
  passed : {cmp : NetClassData → NetClassData → Ordering} → IsTotalOrder cmp → (test : NetClassData → Bool)
      → All (Passes test) (once_in_order cmp (filter test all))
  passed {cmp} o test =
      let listed = once_in_order cmp (filter test all) in
      All-weaker (Contains listed) (Passes test) (λ c there. of_filter test all c (once_given o (filter test all) c there)) listed (All-contains_itself listed)

  are_there : {cmp : NetClassData → NetClassData → Ordering} → IsTotalOrder cmp → (test : NetClassData → Bool)
      → All (Contains all) (once_in_order cmp (filter test all))
  are_there {cmp} o test = All-weaker (Passes test) (Contains all) (λ c both. both.0) (once_in_order cmp (filter test all)) (passed o test)

  from_order : (c : NetClassData) → Contains order c → Contains all c
  from_order c there =
      All-contains (Contains all) order c
      (All-append (Contains all) (named ++ unnamed) unconnected
      (All-append (Contains all) named unnamed (are_there by_printed_name_total is_named) (are_there by_least_pin_total is_unnamed))
      (are_there by_least_pin_total is_unconnected))
      there

  once_apart : {cmp : NetClassData → NetClassData → Ordering} → IsTotalOrder cmp → (cs : List NetClassData) → Apart ◌≢◌ (once_in_order cmp cs)
  once_apart {cmp} o cs = apart_weaker (λ a b. cmp a b ≡ Less) ◌≢◌ (below_differs o) (once_in_order cmp cs) (once_rises o cs)

  -- and no class stands twice
  order_apart : Apart ◌≢◌ order
  order_apart =
      let first = passed by_printed_name_total is_named in
      let second = passed by_least_pin_total is_unnamed in
      let third = passed by_least_pin_total is_unconnected in
      let once_named = once_apart by_printed_name_total (filter is_named all) in
      let once_unnamed = once_apart by_least_pin_total (filter is_unnamed all) in
      apart_append ◌≢◌ (named ++ unnamed) unconnected
      (apart_append ◌≢◌ named unnamed once_named once_unnamed
      (all_cross (Passes is_named) (Passes is_unnamed) ◌≢◌ (λ a b p q. tests_differ is_named is_unnamed named_not_unnamed a b p.1 q.1)
      named unnamed first second))
      (once_apart by_least_pin_total (filter is_unconnected all))
      (All-append (λ c. All (λ d. c ≢ d) unconnected) named unnamed
      (all_cross (Passes is_named) (Passes is_unconnected) ◌≢◌ (λ a b p q. tests_differ is_named is_unconnected named_not_unconnected a b p.1 q.1)
      named unconnected first third)
      (all_cross (Passes is_unnamed) (Passes is_unconnected) ◌≢◌
      (λ a b p q. tests_differ is_unnamed is_unconnected (λ c. not_both (is_named c) c.is_single_pin) a b p.1 q.1) unnamed unconnected second third))

  -- the net stands at the place of the class of a label
  record IsNetOf (r : ℕ) (net : Net) : Type 0 where
    place : ℕ
    at : slice_get nets place ≡ Some net
    class_at : slice_get order place ≡ Some (under r)
    members : net.members ≡ map (λ p. p.member) (under r).pins

  net_of_class : (r : ℕ) → has_pins (under r) ≡ true → (net : Net) × IsNetOf r net
  net_of_class r e =
      let k = place_in order (under r) (in_order (under r) (is_class fs labels are r e)) in
      let net = zip_first HasPinsOf nets order k.0 (under r) beside k.1 in
      (net.0, record { place = k.0; at = net.1; class_at = k.1; members = net.2 })

  class_of_net : (net : Net) → Contains nets net → (r : ℕ) × (has_pins (under r) ≡ true) × IsNetOf r net
  class_of_net net there =
      let k = place_in nets net there in
      let c = zip_second HasPinsOf nets order k.0 net beside k.1 in
      let r = class_is fs labels are c.0 (from_order c.0 (is_there order k.0 c.0 c.1)) in (
        r.0,
        ap has_pins r.1 ∙ r.2,
        record {
          place = k.0;
          at = k.1;
          class_at = c.1 ∙ ap (λ (c : NetClassData). Some c) (sym r.1);
          members = c.2 ∙ ap (λ (c : NetClassData). map (λ p. p.member) c.pins) (sym r.1);
        },
      )

  -- a class has one net, and a net one class
  one_net : (r : ℕ) (net other : Net) → IsNetOf r net → IsNetOf r other → net ≡ other
  one_net r net other a b =
      let place = one_place order a.place b.place (under r) order_apart a.class_at b.class_at in
      same_Some net other (sym a.at ∙ ap (slice_get nets) place ∙ b.at)

  one_label : (r s : ℕ) (net : Net) → has_pins (under r) ≡ true → IsNetOf r net → IsNetOf s net → r ≡ s
  one_label r s net e a b =
      let names = names_apart fs labels are countable in
      let nets_apart = apart_weaker AreNamedApart ◌≢◌ (λ m n differ same. differ (ap (λ (k : Net). k.name) same)) nets names in
      let place = one_place nets a.place b.place net nets_apart a.at b.at in
      one_class fs labels are r s e (same_Some (under r) (under s) (sym a.class_at ∙ ap (slice_get order) place ∙ b.class_at))

  -- the net of a label
  abbrev pick : (r : ℕ) (b : Bool) → has_pins (under r) ≡ b → Net
  pick r true e = (net_of_class r e).0
  pick r false e = no_net

  abbrev net_under : ℕ → Net
  net_under r = pick r (has_pins (under r)) refl

  net_under_is : (r : ℕ) → has_pins (under r) ≡ true → IsNetOf r (net_under r)
  net_under_is r h = by (has_pins (under r)) refl h
    where
      by : (b : Bool) (e : has_pins (under r) ≡ b) → b ≡ true → IsNetOf r (pick r b e)
      by true e h = (net_of_class r e).1
      by false e h = absurd (true≢false (sym h))

  -- the net of the pin at a place
  abbrev net_at : ℕ → Net
  net_at i = net_under (get_or labels i 0)

  pin_has_class : (i : ℕ) (pin : Member) → IsPinAt fs i pin → has_pins (under (get_or labels i 0)) ≡ true
  pin_has_class i pin is = let p = has_pin fs labels are i pin is in not_empty (under (get_or labels i 0)).pins p.0 p.1

  pin_has_net : (i : ℕ) (pin : Member) → IsPinAt fs i pin → IsNetOf (get_or labels i 0) (net_at i)
  pin_has_net i pin is = net_under_is (get_or labels i 0) (pin_has_class i pin is)

  printed_in : (i : ℕ) (pin : Member) → IsPinAt fs i pin → Any (PrintAlike pin) (net_at i).members
  printed_in i pin is =
      let p = has_pin fs labels are i pin is in
      let there = contains_map (λ p. p.member) (under (get_or labels i 0)).pins p.0 p.1 in
      let member : Contains (net_at i).members p.0.member = subst (λ (ms : List Member). Contains ms p.0.member) (sym (pin_has_net i pin is).members) there in
      (member.0, p.0.member, member.1, member.2, p.2)

  pins_of_net : (net : Net) → Contains nets net → All (IsPinOf fs net_at net) net.members
  pins_of_net net there =
      let r = class_of_net net there in
      let pins = (under r.0).pins in
      subst (All (IsPinOf fs net_at net)) (sym r.2.members)
      (All-weaker (Contains (map (λ p. p.member) pins)) (IsPinOf fs net_at net)
      (λ m member.
      let p = of_map (λ p. p.member) pins m member in
      let is = pin_is fs labels are r.0 p.0 p.1 in
      let label : get_or labels p.0.place 0 ≡ r.0 = get_or_from_slice_get labels p.0.place r.0 0 is.1 in
      record {
        place = p.0.place;
        stands = subst (IsPinAt fs p.0.place) p.2 is.0;
        own = ap net_under label ∙ one_net r.0 (net_under r.0) net (net_under_is r.0 r.1) r.2;
      })
      (map (λ p. p.member) pins) (All-contains_itself (map (λ p. p.member) pins)))

  net_is_filled : (net : Net) → Contains nets net → 0 < length net.members
  net_is_filled net there =
      let r = class_of_net net there in
      let p = has_first (under r.0).pins r.1 in
      let some = slice_get_within (under r.0).pins 0 p.0 p.1 in
      omega (arith, some, ap length r.2.members, length-map (under r.0).pins (λ p. p.member))

  members_apart : (net : Net) → Contains nets net → AllPairs (λ m n. PrintAlike m n → ⊥) net.members
  members_apart net there =
      let r = class_of_net net there in
      subst (AllPairs (λ m n. PrintAlike m n → ⊥)) (sym r.2.members) (class_apart fs labels are r.0)

  -- each pin has one net, that of its class
  pub each_has_one_net : EachPinHasOneNet fs nets
  each_has_one_net = (
    net_at,
    record {
      listed = λ i pin is. let net = pin_has_net i pin is in is_there nets net.place (net_at i) net.at;
      printed = printed_in;
      class = λ i j pin other is also.
          let first = pin_has_net i pin is in
          let second = pin_has_net j other also in
          let joined = labels_are fs labels are i j (slice_get_within fs i is.conductor is.stands) (slice_get_within fs j also.conductor also.stands) in (
            λ same. joined.0 (one_label (get_or labels i 0) (get_or labels j 0) (net_at j) (pin_has_class i pin is)
                (subst (IsNetOf (get_or labels i 0)) same first) second),
            λ chain. ap net_under (joined.1 chain),
          );
      filled = All-weaker (Contains nets) (λ net. 0 < length net.members) net_is_filled nets (All-contains_itself nets);
      only = All-weaker (Contains nets) (λ net. All (IsPinOf fs net_at net) net.members) pins_of_net nets (All-contains_itself nets);
      once = All-weaker (Contains nets) (λ net. AllPairs (λ m n. PrintAlike m n → ⊥) net.members) members_apart nets (All-contains_itself nets);
    },
  )
