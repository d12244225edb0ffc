-- The sum of the sizes of the classes of conductors that leave is that of the sizes of their groups.
use Rattle.std.proofs.Common.{Bool, List, Some, [], ap, append_assoc, false, filter, get_or, inl, inr, length, map, refl, subst, sym, true, ℕ, ◌++◌, ◌+◌, ◌∙◌, ◌∷◌, ◌≡◌, ◌≢◌}
use Rattle.std.specs.FinMap.{entries, get}
use Rattle.std.specs.List.{AllByRecursion, flat_map, slice_get}
use Rattle.std.specs.List.Sorted.{IsStrictlySortedBy}
use Rattle.std.specs.declared.cmp.Ordering.TheVariants.{Less, Equal}
use Rattle.std.proofs.lemmas.List.{map-append}
use Rattle.geda_geom.specs.declared.conductor.Conductor.{Conductor}
use Rattle.geda_geom.specs.declared.conductor.Key.{Key}
use Rattle.geda_geom.specs.Keys.{by_key}
use Rattle.net_flood.specs.Grouping.{Conductors, IsGroup}
use Rattle.geda_geom.proofs.KeyLemmas.{by_key_total}
use Rattle.project_model.specs.declared.change.Placed.{Placed}
use Rattle.project_model.specs.Items.{Item}
use Rattle.project_model.specs.Projects.{ProjectData}
use Rattle.group_runs.specs.Runs as runs
use Rattle.group_runs.specs.Runs.{BySheet, SheetName, less}
use Rattle.sheet_groups.specs.Conductors.{SheetConductor, conductors_at}
use Rattle.sheet_groups.proofs.OrderLemmas.{conductor_keys_rise}
use Rattle.board_core.specs.Changed.{is_changed}
use Rattle.board_core.specs.GroupSizes.{IsGroupSize}
use Rattle.board_core.specs.Bounds.{Leaving, SizesSum, leaving}
use Rattle.board_core.specs.steps.Standing.{by_sheet, drawn_in, leave, leaving_drawn, on_sheet}
use Rattle.board_core.specs.steps.Members.{Distinct, In}
use Rattle.board_core.proofs.MemberLemmas.{in_either, in_left, in_map, in_right, contains_in, in_contains}
use Rattle.board_core.proofs.StandLemmas.{less_cases, less_keeps, same_conductors}
use Rattle.board_core.proofs.DrawnLemmas.{conductor, keys_at, keys_rise_distinct, stands, stood, all_in, key_itself}
use Rattle.board_core.proofs.GroupLemmas.{Rise, group_labelled, group_of_size, labelled, labelled_count}
use Rattle.board_core.proofs.LabelLemmas.{labels_of}

-- conductors, of those that are told whether they leave
abbrev firsts : List Leaving → List SheetConductor
firsts fs = map (λ (f : Leaving). f.0) fs

-- those that leave
abbrev left_in : List Leaving → List SheetConductor
left_in [] = []
left_in ((c, true) ∷ fs) = c ∷ left_in fs
left_in ((c, false) ∷ fs) = left_in fs

all_without : (P : Key → Type 0) (kept cs : List SheetConductor) (c : SheetConductor) → AllByRecursion P (keys_at (kept ++ c ∷ cs)) → AllByRecursion P (keys_at (kept ++ cs))
all_without P [] cs c h = h.1
all_without P (k ∷ kept) cs c h = (h.0, all_without P kept cs c h.1)

rise_without : (kept cs : List SheetConductor) (c : SheetConductor) → Rise (kept ++ c ∷ cs) → Rise (kept ++ cs)
unfolding IsStrictlySortedBy
rise_without [] cs c h = h.1
rise_without (k ∷ kept) cs c h = (all_without (λ q. by_key k.key q ≡ Less) kept cs c h.0, rise_without kept cs c h.1)

-- a conductor behind others
pub behind : (kept cs : List SheetConductor) (c : SheetConductor) → slice_get (kept ++ c ∷ cs) (length kept) ≡ Some c
behind [] cs c = refl
behind (k ∷ kept) cs c = behind kept cs c

-- a conductor that leaves is no more among those of its sheet
less_by_sheet : (kept cs : List SheetConductor) (c : SheetConductor) → Rise (kept ++ c ∷ cs) → less (by_sheet (kept ++ c ∷ cs)) (leave c) ≡ by_sheet (kept ++ cs)
less_by_sheet kept cs c rise = λ i s. each s i
  where
    to_all : (x : SheetConductor) → In x (kept ++ cs) → In x (kept ++ c ∷ cs)
    to_all x h = elim (in_either x kept cs h) [ inl a ↦ in_left x kept (c ∷ cs) a | inr b ↦ in_right x kept (c ∷ cs) (inr b) ]

    to_rest : (x : SheetConductor) → In x (kept ++ c ∷ cs) → (c ≢ x) → In x (kept ++ cs)
    to_rest x h n = elim (in_either x kept (c ∷ cs) h) [
      | inl a ↦ in_left x kept cs a
      | inr b ↦ elim b [ inl e ↦ absurd (n e) | inr k ↦ in_right x kept cs k ]
    ]

    -- no other conductor has its key
    alone : (x : SheetConductor) → In x (kept ++ cs) → c.key ≢ x.key
    alone x h = apart kept h (keys_rise_distinct (keys_at (kept ++ c ∷ cs)) rise)
      where
        in_keys : (xs : List SheetConductor) → In x xs → In x.key (keys_at xs)
        in_keys xs h = in_map (λ (y : SheetConductor). y.key) x xs h

        apart : (before : List SheetConductor) → In x (before ++ cs) → Distinct (keys_at (before ++ c ∷ cs)) → c.key ≢ x.key
        apart [] h d e = d.0 (subst (λ (k : Key). In k (keys_at cs)) (sym e) (in_keys cs h))
        apart (k ∷ before) (inl is) d e = d.0 (subst (λ (q : Key). In q (keys_at (before ++ c ∷ cs))) (e ∙ sym (ap (λ (y : SheetConductor). y.key) is))
            (in_map (λ (y : SheetConductor). y.key) c (before ++ c ∷ cs) (in_right c before (c ∷ cs) (inl refl))))
        apart (k ∷ before) (inr h) d e = apart before h d.1 e

    to : (s : SheetName) (k : Key) (v : Conductor) → get (less (by_sheet (kept ++ c ∷ cs)) (leave c) s) k ≡ Some v → get (by_sheet (kept ++ cs) s) k ≡ Some v
    to s k v e =
        let w = less_cases (by_sheet (kept ++ c ∷ cs)) (leave c) s k v e in
        let old = stood (kept ++ c ∷ cs) (keys_rise_distinct (keys_at (kept ++ c ∷ cs)) rise) s k v w.0 in
        stands (kept ++ cs) (keys_rise_distinct (keys_at (kept ++ cs)) (rise_without kept cs c rise)) (conductor s k v)
        (to_rest (conductor s k v) old (λ is. w.1 (ap leave is)))

    back : (s : SheetName) (k : Key) (v : Conductor) → get (by_sheet (kept ++ cs) s) k ≡ Some v → get (less (by_sheet (kept ++ c ∷ cs)) (leave c) s) k ≡ Some v
    back s k v e =
        let new = stood (kept ++ cs) (keys_rise_distinct (keys_at (kept ++ cs)) (rise_without kept cs c rise)) s k v e in
        less_keeps (by_sheet (kept ++ c ∷ cs)) (leave c) s k v
        (stands (kept ++ c ∷ cs) (keys_rise_distinct (keys_at (kept ++ c ∷ cs)) rise) (conductor s k v) (to_all (conductor s k v) new))
        (λ is. alone (conductor s k v) new (ap (λ (l : runs.Leaving). l.1) is))

    each : (s : SheetName) → less (by_sheet (kept ++ c ∷ cs)) (leave c) s ≡ by_sheet (kept ++ cs) s
    each s = same_conductors (less (by_sheet (kept ++ c ∷ cs)) (leave c) s) (by_sheet (kept ++ cs) s) (λ k v. to s k v) (λ k v. back s k v)

-- the sizes of classes are those of groups
sizes_of_groups : (kept : List SheetConductor) (fs : List Leaving) (sum : ℕ) → Rise (kept ++ firsts fs) → SizesSum kept fs sum
    → runs.SizesSum (by_sheet (kept ++ firsts fs)) (map leave (left_in fs)) sum
sizes_of_groups kept [] sum rise sizes = sizes
sizes_of_groups kept ((c, false) ∷ fs) sum rise sizes =
    let same : (kept ++ c ∷ []) ++ firsts fs ≡ kept ++ c ∷ firsts fs = append_assoc kept (c ∷ []) (firsts fs) in
    subst (λ (cs : List SheetConductor). runs.SizesSum (by_sheet cs) (map leave (left_in fs)) sum) same
    (sizes_of_groups (kept ++ c ∷ []) fs sum (subst Rise (sym same) rise) sizes)
sizes_of_groups kept ((c, true) ∷ fs) sum rise sizes =
    let group = group_of_size (kept ++ c ∷ firsts fs) rise (length kept) c (behind kept (firsts fs) c) sizes.0 sizes.2 in
    let rest = sizes_of_groups kept fs sizes.1 (rise_without kept (firsts fs) c rise) sizes.3 in (
      group.0,
      sizes.1,
      group.1,
      subst (λ (at : BySheet). runs.SizesSum at (map leave (left_in fs)) sizes.1) (sym (less_by_sheet kept (firsts fs) c rise)) rest,
      sizes.4 ∙ ap (λ (n : ℕ). n + sizes.1) group.2,
    )

-- no two keys are below each other
below_once : (x y : Key) → by_key x y ≡ Less → by_key y x ≡ Less → ⊥
below_once x y more less = (let around : by_key x x ≡ Less = by_key_total.trans x y x more less in let clash : Equal ≡ Less = sym (key_itself x) ∙ around in absurd (cc))

-- keys in order are told by what they contain
first_same : (x y : Key) (xs ys : List Key) → IsStrictlySortedBy by_key (x ∷ xs) → IsStrictlySortedBy by_key (y ∷ ys) → In x (y ∷ ys) → In y (x ∷ xs) → x ≡ y
unfolding IsStrictlySortedBy
first_same x y xs ys first second (inl e) k = sym e
first_same x y xs ys first second (inr h) (inl e) = e
first_same x y xs ys first second (inr h) (inr k) = absurd (below_once x y (all_in (λ q. by_key x q ≡ Less) xs y first.0 k) (all_in (λ q. by_key y q ≡ Less) ys x second.0 h))

later_in : (x y z : Key) (xs ys : List Key) → IsStrictlySortedBy by_key (x ∷ xs) → x ≡ y → In z xs → In z (y ∷ ys) → In z ys
unfolding IsStrictlySortedBy
later_in x y z xs ys first same h (inr k) = k
later_in x y z xs ys first same h (inl e) =
    absurd (let less : by_key x z ≡ Less = all_in (λ q. by_key x q ≡ Less) xs z first.0 h in let clash : Equal ≡ Less = sym (key_itself x) ∙ ap (by_key x) (same ∙ e) ∙ less in cc)

same_keys : (xs ys : List Key) → IsStrictlySortedBy by_key xs → IsStrictlySortedBy by_key ys → ((q : Key) → In q xs → In q ys) → ((q : Key) → In q ys → In q xs) → xs ≡ ys
unfolding IsStrictlySortedBy
same_keys [] [] first second to back = refl
same_keys [] (y ∷ ys) first second to back = absurd (back y (inl refl))
same_keys (x ∷ xs) [] first second to back = absurd (to x (inl refl))
same_keys (x ∷ xs) (y ∷ ys) first second to back =
    let same = first_same x y xs ys first second (to x (inl refl)) (back y (inl refl)) in
    let rest = same_keys xs ys first.1 second.1 (λ z h. later_in x y z xs ys first same h (to z (inr h))) (λ z h. later_in y x z ys xs second (sym same) h (back z (inr h))) in
    λ i. same i ∷ rest i

-- two lists of the keys of one group are the same
pub same_group : (cs : Conductors) (k : Key) (xs ys : List Key) → IsGroup cs k xs → IsGroup cs k ys → xs ≡ ys
same_group cs k xs ys first second =
    same_keys xs ys first.rising second.rising
    (λ q h. contains_in q ys ((second.same q).1 ((first.same q).0 (in_contains q xs h))))
    (λ q h. contains_in q xs ((first.same q).1 ((second.same q).0 (in_contains q ys h))))

-- a group is as large as the class of its conductor
size_of_group : (cs : List SheetConductor) → Rise cs → (i : ℕ) (c : SheetConductor) → slice_get cs i ≡ Some c → (keys : List Key) → IsGroup (by_sheet cs c.sheet) c.key keys → IsGroupSize cs i (length keys)
size_of_group cs rise i c here keys group =
    let labels = labels_of cs in
    record {
      labels = labels.0;
      are_labels = labels.1;
      counted = ap length (same_group (by_sheet cs c.sheet) c.key keys (labelled (get_or labels.0 i 0) cs labels.0) group (group_labelled cs rise i c here labels.0 labels.1))
          ∙ sym (labelled_count (get_or labels.0 i 0) cs labels.0 labels.1.len);
    }

-- the sizes of groups are those of classes
sizes_of_classes : (kept : List SheetConductor) (fs : List Leaving) (sum : ℕ) → Rise (kept ++ firsts fs) → runs.SizesSum (by_sheet (kept ++ firsts fs)) (map leave (left_in fs)) sum
    → SizesSum kept fs sum
sizes_of_classes kept [] sum rise sizes = sizes
sizes_of_classes kept ((c, false) ∷ fs) sum rise sizes =
    let same : (kept ++ c ∷ []) ++ firsts fs ≡ kept ++ c ∷ firsts fs = append_assoc kept (c ∷ []) (firsts fs) in
    sizes_of_classes (kept ++ c ∷ []) fs sum (subst Rise (sym same) rise)
    (subst (λ (cs : List SheetConductor). runs.SizesSum (by_sheet cs) (map leave (left_in fs)) sum) (sym same) sizes)
sizes_of_classes kept ((c, true) ∷ fs) sum rise sizes =
    let size = size_of_group (kept ++ c ∷ firsts fs) rise (length kept) c (behind kept (firsts fs) c) sizes.0 sizes.2 in
    let rest = sizes_of_classes kept fs sizes.1 (rise_without kept (firsts fs) c rise)
    (subst (λ (at : BySheet). runs.SizesSum at (map leave (left_in fs)) sizes.1) (less_by_sheet kept (firsts fs) c rise) sizes.3) in
    (length sizes.0, sizes.1, size, rest, sizes.4)

module _ (p : ProjectData) (items : List Item) where
  abbrev flags : List (ℕ × Placed) → List Leaving
  flags rows = flat_map (λ row. map (λ c. (c, is_changed items row)) (conductors_at p row)) rows

  firsts_same : (b : Bool) (cs : List SheetConductor) → firsts (map (λ c. (c, b)) cs) ≡ cs
  firsts_same b [] = refl
  firsts_same b (c ∷ cs) = ap (◌∷◌ c) (firsts_same b cs)

  left_append : (fs gs : List Leaving) → left_in (fs ++ gs) ≡ left_in fs ++ left_in gs
  left_append [] gs = refl
  left_append ((c, true) ∷ fs) gs = ap (◌∷◌ c) (left_append fs gs)
  left_append ((c, false) ∷ fs) gs = left_append fs gs

  left_all : (cs : List SheetConductor) → left_in (map (λ c. (c, true)) cs) ≡ cs
  left_all [] = refl
  left_all (c ∷ cs) = ap (◌∷◌ c) (left_all cs)

  left_none : (cs : List SheetConductor) → left_in (map (λ c. (c, false)) cs) ≡ []
  left_none [] = refl
  left_none (c ∷ cs) = left_none cs

  firsts_flags : (rows : List (ℕ × Placed)) → firsts (flags rows) ≡ drawn_in p rows
  firsts_flags [] = refl
  firsts_flags (row ∷ rows) =
      map-append (λ (f : Leaving). f.0) (map (λ c. (c, is_changed items row)) (conductors_at p row)) (flags rows)
      ∙ (λ i. firsts_same (is_changed items row) (conductors_at p row) i ++ firsts_flags rows i)

  left_flags : (rows : List (ℕ × Placed)) → left_in (flags rows) ≡ drawn_in p (filter (is_changed items) rows)
  left_flags [] = refl
  left_flags (row ∷ rows) = left_append (map (λ c. (c, is_changed items row)) (conductors_at p row)) (flags rows) ∙ by (left_flags rows) (is_changed items row) refl
    where
      by : left_in (flags rows) ≡ drawn_in p (filter (is_changed items) rows) → (b : Bool) → is_changed items row ≡ b
          → left_in (map (λ c. (c, is_changed items row)) (conductors_at p row)) ++ left_in (flags rows) ≡ drawn_in p (filter (is_changed items) (row ∷ rows))
      by rest true e = rw e (λ i. left_all (conductors_at p row) i ++ rest i)
      by rest false e = rw e ((λ i. left_none (conductors_at p row) i ++ rest i))

  -- the sizes of the classes of the conductors that leave a project are those of their groups
  pub sizes_on_sheets : (sum : ℕ) → SizesSum [] (leaving p items) sum → runs.SizesSum (on_sheet p) (map leave (leaving_drawn p items)) sum
  sizes_on_sheets sum sizes =
      let all = firsts_flags (entries p.objects) in
      let some = left_flags (entries p.objects) in
      subst (λ (cs : List SheetConductor). runs.SizesSum (on_sheet p) (map leave cs) sum) some
      (subst (λ (cs : List SheetConductor). runs.SizesSum (by_sheet cs) (map leave (left_in (leaving p items))) sum) all
      (sizes_of_groups [] (leaving p items) sum (subst Rise (sym all) (conductor_keys_rise p)) sizes))

  -- and the sizes of their groups are those of the classes
  pub sizes_in_classes : (sum : ℕ) → runs.SizesSum (on_sheet p) (map leave (leaving_drawn p items)) sum → SizesSum [] (leaving p items) sum
  sizes_in_classes sum sizes =
      let all = firsts_flags (entries p.objects) in
      let some = left_flags (entries p.objects) in
      sizes_of_classes [] (leaving p items) sum (subst Rise (sym all) (conductor_keys_rise p))
      (subst (λ (cs : List SheetConductor). runs.SizesSum (by_sheet cs) (map leave (left_in (leaving p items))) sum) (sym all)
      (subst (λ (cs : List SheetConductor). runs.SizesSum (on_sheet p) (map leave cs) sum) (sym some) sizes))
