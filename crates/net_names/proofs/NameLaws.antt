-- The names of the nets of a list differ: those of named nets, since each stands once; the others,
-- since numbers are free and rise.
use Rattle.std.proofs.Common.{◌≡◌, ◌≢◌, ℕ, ◌+◌, ◌≤◌, ◌<◌, ◌^◌, ◌||◌, not, Bool, true, List, [], ◌∷◌, ◌++◌, Option, Some, Contains, length, map, filter, flat_map, codes, decimal, bytes_eq, refl, sym, ap, ◌∙◌, subst, inl, inr, arith, true≢false}
use Rattle.std.specs.Prelude.{All}
use Rattle.std.specs.declared.cmp.Ordering.TheVariants.{Less}
use Rattle.std.specs.List.{list_any, range_with_len, slice_get}
use Rattle.std.proofs.lemmas.List.Elements.{All-append, All-cons, All-contains_itself, All-weaker}
use Rattle.std.proofs.Math.Bool.{or-true}
use Rattle.std.proofs.lemmas.List.{length-map}
use Rattle.std.proofs.lemmas.List.Filters.{length-filter_both}
use Rattle.std.proofs.lemmas.List.FromFn.{length-range_with_len}
use Rattle.std.proofs.lemmas.Option.{same_Some}
use Rattle.std.proofs.lemmas.Slice.Eq.{bytes_eq-Decides}
use Rattle.geda_defs.specs.Classes.{AreClasses}
use Rattle.hierarchy.proofs.ListLemmas.{all_none}
use Rattle.pair_classes.proofs.ListLemmas.{in_cases, none_is_in}
use Rattle.flat_rows.specs.Conductors.{FlatConductor}
use Rattle.link_classes.specs.Links.{Linked, names_of}
use Rattle.geda_defs.specs.Order.{once_in_order}
use Rattle.net_list.specs.declared.nets.Net.{Net}
use Rattle.net_list.specs.declared.nets.NetSort.{NetSort}
use Rattle.net_list.specs.declared.nets.NetSort.TheVariants as sorts
use Rattle.net_names.specs.NetClasses.{NetClassData, has_pins}
use Rattle.net_names.specs.NetLists.{AreCountable, free_numbers, is_free, is_named, is_unconnected, is_unnamed, named_net, numbered, numbered_nets, by_least_pin, nets_by}
use Rattle.net_names.specs.NetLaws.{NamesDiffer}
use Rattle.net_names.specs.steps.Orders.{by_bytes_total, by_net_name, by_net_name_total}
use Rattle.net_names.proofs.ApartLemmas.{Apart, all_cross, apart_append, apart_weaker, as_pairs, below_differs, of_filter, once_given, once_rises}
use Rattle.net_names.proofs.ClassLemmas.{class, class_is, classes, name_is_used}
use Rattle.net_names.proofs.FreeNumbers.{Rises, numbers_rise, one_text}
use Rattle.net_names.proofs.PlaceLemmas.{of_map}

-- what passes is no more than there is
filter_le : {X : Type 0} (test : X → Bool) (xs : List X) → length (filter test xs) ≤ length xs
filter_le test xs = let both = length-filter_both test (λ x. not (test x)) (λ x. refl) xs in omega (arith, both)

-- the two have different names
abbrev pub AreNamedApart : Net → Net → Type 0
AreNamedApart a b = a.name ≢ b.name

-- the name is the text of a number from one on, which no conductor has as a name
record IsNumbered (prefix : List ℕ) (used : List (List ℕ)) (from : ℕ) (net : Net) : Type 0 where
  number : ℕ
  above : from ≤ number
  below : number < 10 ^ 64
  free : is_free prefix used number ≡ true
  name : net.name ≡ prefix ++ decimal number

module _ (prefix : List ℕ) (sort : NetSort) (used : List (List ℕ)) where
  are_numbered : (from : ℕ) (ns : List ℕ) (cs : List NetClassData) → Rises (is_free prefix used) from (10 ^ 64) ns
      → All (IsNumbered prefix used from) (numbered prefix sort ns cs)
  are_numbered from [] cs r = all_none (IsNumbered prefix used from)
  are_numbered from (n ∷ ns) [] r = all_none (IsNumbered prefix used from)
  are_numbered from (n ∷ ns) (c ∷ cs) (above, below, free, rest) =
      All-cons (IsNumbered prefix used from) _ (numbered prefix sort ns cs)
      (record { number = n; above = above; below = below; free = free; name = refl })
      (All-weaker (IsNumbered prefix used (n + 1)) (IsNumbered prefix used from)
      (λ net is. record { number = is.number; above = omega (arith, above, is.above); below = is.below; free = is.free; name = is.name })
      (numbered prefix sort ns cs) (are_numbered (n + 1) ns cs rest))

  numbered_apart : (from : ℕ) (ns : List ℕ) (cs : List NetClassData) → Rises (is_free prefix used) from (10 ^ 64) ns
      → Apart AreNamedApart (numbered prefix sort ns cs)
  numbered_apart from [] cs r = tt
  numbered_apart from (n ∷ ns) [] r = tt
  numbered_apart from (n ∷ ns) (c ∷ cs) (above, below, free, rest) = (
    All-weaker (IsNumbered prefix used (n + 1)) (λ net. prefix ++ decimal n ≢ net.name)
        (λ net is same. let one = one_text prefix n is.number below is.below (same ∙ is.name) in omega (arith, is.above, one))
        (numbered prefix sort ns cs) (are_numbered (n + 1) ns cs rest),
    numbered_apart (n + 1) ns cs rest,
  )

-- a name that is there is found
found_name : (text : List ℕ) (names : List (List ℕ)) → Contains names text → list_any (bytes_eq text) names ≡ true
found_name text [] c = none_is_in text c
found_name text (name ∷ names) c = elim (in_cases name names text c) [
  | inl same ↦ rw ((bytes_eq-Decides text name).1 (sym same)) refl
  | inr later ↦ ap (λ (b : Bool). bytes_eq text name || b) (found_name text names later) ∙ or-true (bytes_eq text name)
]

-- a name that is used is no text of a free number
used_differs : (prefix : List ℕ) (used : List (List ℕ)) (a b : Net) → Contains used a.name → IsNumbered prefix used 1 b → AreNamedApart a b
used_differs prefix used a b there is same =
    let taken = found_name (prefix ++ decimal is.number) used (subst (Contains used) (same ∙ is.name) there) in
    true≢false (sym is.free ∙ ap not taken)

-- the names of unnamed nets and those of unconnected pins differ in their third byte
prefixes_differ : (used : List (List ℕ)) (a b : Net) → IsNumbered (codes "unnamed_net") used 1 a → IsNumbered (codes "unconnected_pin-") used 1 b
    → AreNamedApart a b
prefixes_differ used a b one other same =
    let third : ◌≡◌ {A = Option ℕ} (Some 110) (Some 99) = ap (λ (name : List ℕ). slice_get name 2) (sym one.name ∙ same ∙ other.name) in
    let bytes : ◌≡◌ {A = ℕ} 110 99 = same_Some 110 99 third in
    absurd (omega (arith, bytes))

module _ (fs : List FlatConductor) (labels : List ℕ) (are : AreClasses (Linked fs) (length fs) labels) (countable : AreCountable fs) where
  abbrev used : List (List ℕ)
  used = flat_map names_of fs

  -- the classes that pass are no more than the conductors
  pub few : (test : NetClassData → Bool) → length (filter test (classes fs labels are)) + length used < 10 ^ 64
  few test =
      let range = range_with_len 0 (length fs) in
      let made = length-map range (class fs labels are) in
      let members = filter_le has_pins (map (class fs labels are) range) in
      let pass = filter_le test (classes fs labels are) in
      omega (arith, countable, made, members, pass, length-range_with_len 0 (length fs))

  -- the nets that are named
  abbrev named : List Net
  named = once_in_order by_net_name (map named_net (filter is_named (classes fs labels are)))

  are_used : All (λ net. Contains used net.name) named
  are_used =
      All-weaker (Contains named) (λ net. Contains used net.name)
      (λ net there.
      let given = filter is_named (classes fs labels are) in
      let made = of_map named_net given net (once_given by_net_name_total (map named_net given) net there) in
      let c = of_filter is_named (classes fs labels are) made.0 made.1 in
      let r = class_is fs labels are made.0 c.0 in
      let is : is_named (class fs labels are r.0) ≡ true = ap is_named r.1 ∙ c.1 in
      let name = ap (λ (c : NetClassData). (named_net c).name) r.1 ∙ ap (λ (n : Net). n.name) made.2 in
      subst (λ (text : List ℕ). Contains used text) name (name_is_used fs labels are r.0 is))
      named (All-contains_itself named)

  named_apart : Apart AreNamedApart named
  named_apart =
      apart_weaker (λ a b. by_net_name a b ≡ Less) AreNamedApart (λ a b less. below_differs by_bytes_total a.name b.name less)
      named (once_rises by_net_name_total (map named_net (filter is_named (classes fs labels are))))

  module _ (prefix : List ℕ) (sort : NetSort) (test : NetClassData → Bool) where
    -- the nets that are numbered
    abbrev others : List Net
    others = numbered_nets prefix sort used (filter test (classes fs labels are))

    rise : Rises (is_free prefix used) 1 (10 ^ 64) (free_numbers prefix used (length (filter test (classes fs labels are))))
    rise = numbers_rise prefix used (length (filter test (classes fs labels are))) (few test)

    others_are : All (IsNumbered prefix used 1) others
    others_are = are_numbered prefix sort used 1 _ (once_in_order by_least_pin (filter test (classes fs labels are))) rise

    others_apart : Apart AreNamedApart others
    others_apart = numbered_apart prefix sort used 1 _ (once_in_order by_least_pin (filter test (classes fs labels are))) rise

  pub names_apart : Apart AreNamedApart (nets_by fs labels)
  names_apart =
      let first = codes "unnamed_net" in
      let second = codes "unconnected_pin-" in
      let unnamed = others first sorts.Unnamed is_unnamed in
      let unconnected = others second sorts.Unconnected is_unconnected in
      let unnamed_are = others_are first sorts.Unnamed is_unnamed in
      let unconnected_are = others_are second sorts.Unconnected is_unconnected in
      let Used : Net → Type 0 = λ net. Contains used net.name in
      let IsOf : List ℕ → Net → Type 0 = λ prefix. IsNumbered prefix used 1 in
      let with_unnamed = all_cross Used (IsOf first) AreNamedApart (λ a b. used_differs first used a b) named unnamed are_used unnamed_are in
      let with_unconnected = all_cross Used (IsOf second) AreNamedApart (λ a b. used_differs second used a b) named unconnected are_used unconnected_are in
      let both_kinds = all_cross (IsOf first) (IsOf second) AreNamedApart (λ a b. prefixes_differ used a b) unnamed unconnected unnamed_are unconnected_are in
      apart_append AreNamedApart (named ++ unnamed) unconnected
      (apart_append AreNamedApart named unnamed named_apart (others_apart first sorts.Unnamed is_unnamed) with_unnamed)
      (others_apart second sorts.Unconnected is_unconnected)
      (All-append (λ net. All (AreNamedApart net) unconnected) named unnamed with_unconnected both_kinds)

  -- no two nets have one name
  pub names_differ : NamesDiffer (nets_by fs labels)
  names_differ = as_pairs AreNamedApart (nets_by fs labels) names_apart
