-- What is taken in for each label is what is told of its class.
use Rattle.std.proofs.Common.{◌≡◌, ℕ, suc, ◌+◌, ◌==◌, ◌||◌, ◌<◌, not, Bool, true, false, cond, List, [], ◌∷◌, ◌++◌, Option, Some, None, Ordering, length, get_or, set, map, filter, flat_map, fold, replicate, refl, sym, ap, subst, ◌∙◌, arith, inl, inr}
use Rattle.std.specs.Prelude.{slice_get, slice_index}
use Rattle.std.specs.declared.cmp.Ordering.TheVariants.{Less, Equal, Greater}
use Rattle.std.specs.List.{find, list_any}
use Rattle.std.specs.Ordering.{is_eq, match_ordering}
use Rattle.std.specs.BTreeSet.{insert_key}
use Rattle.std.proofs.Math.Bool.{or_assoc, or-false}
use Rattle.std.proofs.lemmas.Bool.{cases_eq, eq-eqb, ne_eqb}
use Rattle.std.proofs.lemmas.List.{get_or-replicate, get_or-set_same, get_or-set_other, length-set, length-replicate}
use Rattle.std.proofs.lemmas.List.Sums.{fold-append}
use Rattle.std.proofs.lemmas.Map.Lookups.{exact_bytes}
use Rattle.geda_defs.specs.Order.{is_equal, once_in_order}
use Rattle.geda_defs.proofs.OnceLaws.{find_once, is_once_in_order}
use Rattle.rank_order.proofs.OrderLemmas.{once_is}
use Rattle.rank_order.proofs.RankLemmas.{then_equal}
use Rattle.flat_rows.specs.Conductors.{FlatConductor}
use Rattle.flat_rows.specs.Keyed.{Keyed, keyed_at, keyed_from}
use Rattle.flat_rows.specs.Rows.{row_of}
use Rattle.flat_rows.specs.declared.rows.FlatRow.{FlatRow}
use Rattle.link_classes.specs.Links.{names_of}
use Rattle.net_names.specs.NetClasses.{Labelled, labelled_from, is_single_pin, has_global_name, is_of_directive, net_class, net_class_of}
use Rattle.net_names.specs.NetLists.{by_name}
use Rattle.net_names.specs.steps.Orders.{by_name_total}
use Rattle.net_names.specs.steps.Gathering.{GrowingClassData, IsGrown, empty_class, grown, keyed_rows, label_at, lesser, taken_in, with_drawn, with_global, with_key, with_row}

-- ---- one label

pub taken_length : {K : Type 0} (label : Keyed K → ℕ) (take : GrowingClassData → K → GrowingClassData) (growing : List GrowingClassData) (ks : List (Keyed K)) → length (taken_in label take growing ks) ≡ length growing
taken_length label take growing [] = refl
taken_length label take growing (k ∷ ks) = taken_length label take (with_key label take growing k) ks ∙ length-set growing _ _

-- one key changes the class of its label alone
taken_one : {K : Type 0} (take : GrowingClassData → K → GrowingClassData) (growing : List GrowingClassData) (label r : ℕ) (k : K) (ks : List K) → r < length growing
    → fold take (get_or (set growing label (take (get_or growing label empty_class) k)) r empty_class) ks ≡ fold take (get_or growing r empty_class) (cond (label == r) (k ∷ ks) ks)
taken_one take growing label r k ks h = elim (cases_eq label r) [
  | inl e ↦ rw (e, get_or-set_same growing r (take (get_or growing r empty_class) k) empty_class h, eq-eqb r r refl) refl
  | inr ne ↦ rw (get_or-set_other growing label r (take (get_or growing label empty_class) k) empty_class (λ x. ne (sym x)), ne_eqb label r ne) refl
]

first_cond : {K : Type 0} (b : Bool) (k : Keyed K) (ks : List (Keyed K)) → map (λ k. k.0) (cond b (k ∷ ks) ks) ≡ cond b (k.0 ∷ map (λ k. k.0) ks) (map (λ k. k.0) ks)
first_cond true k ks = refl
first_cond false k ks = refl

-- the class of a label takes in the keys of that label, in their order
taken_at : {K : Type 0} (label : Keyed K → ℕ) (take : GrowingClassData → K → GrowingClassData) (growing : List GrowingClassData) (ks : List (Keyed K)) (r : ℕ) → r < length growing
    → get_or (taken_in label take growing ks) r empty_class ≡ fold take (get_or growing r empty_class) (map (λ k. k.0) (filter (λ k. label k == r) ks))
taken_at label take growing [] r h = refl
taken_at {K} label take growing (k ∷ ks) r h =
    let rest = filter (λ k. label k == r) ks in
    taken_at label take (with_key label take growing k) ks r (subst (λ (n : ℕ). r < n) (sym (length-set growing (label k) (take (get_or growing (label k) empty_class) k.0))) h)
    ∙ taken_one take growing (label k) r k.0 (map (λ k. k.0) rest) h
    ∙ ap (λ (xs : List K). fold take (get_or growing r empty_class) xs) (sym (first_cond (label k == r) k rest))

-- ---- keys of one label are those of its conductors

filter_behind : {A : Type 0} (t : A → Bool) (xs ys : List A) → filter t (xs ++ ys) ≡ filter t xs ++ filter t ys
filter_behind t [] ys = refl
filter_behind {A} t (x ∷ xs) ys = by (t x) (filter_behind t xs ys)
  where
    by : (b : Bool) → filter t (xs ++ ys) ≡ filter t xs ++ filter t ys → cond b (x ∷ filter t (xs ++ ys)) (filter t (xs ++ ys)) ≡ cond b (x ∷ filter t xs) (filter t xs) ++ filter t ys
    by true h = ap (λ (zs : List A). x ∷ zs) h
    by false h = h

map_behind : {A B : Type 0} (f : A → B) (xs ys : List A) → map f (xs ++ ys) ≡ map f xs ++ map f ys
map_behind f [] ys = refl
map_behind f (x ∷ xs) ys = ap (λ zs. f x ∷ zs) (map_behind f xs ys)

keys_at_one : {K : Type 0} (t : ℕ → Bool) (s : ℕ) (keys : List K) → map (λ k. k.0) (filter (λ k. t k.1) (keyed_at s keys)) ≡ cond (t s) keys []
keys_at_one {K} t s [] = by (t s)
  where
    by : (b : Bool) → ◌≡◌ {A = List K} [] (cond b [] [])
    by true = refl
    by false = refl
keys_at_one {K} t s (key ∷ keys) = by (t s) (keys_at_one t s keys)
  where
    by : (b : Bool) → map (λ k. k.0) (filter (λ k. t k.1) (keyed_at s keys)) ≡ cond b keys []
        → map (λ k. k.0) (cond b ((key, s) ∷ filter (λ k. t k.1) (keyed_at s keys)) (filter (λ k. t k.1) (keyed_at s keys))) ≡ cond b (key ∷ keys) []
    by true h = ap (λ (xs : List K). key ∷ xs) h
    by false h = h

keys_of_label : {K : Type 0} (keys : FlatConductor → List K) (R : ℕ → ℕ) (s : ℕ) (cs : List FlatConductor) (labels : List ℕ) (r : ℕ) → length labels ≡ length cs → ((j p : ℕ) → j < length labels → p ≡ s + j → R p ≡ get_or labels j 0)
    → map (λ k. k.0) (filter (λ k. R k.1 == r) (keyed_from keys s cs)) ≡ flat_map (λ l. keys l.conductor) (filter (λ l. l.label == r) (labelled_from s cs labels))
keys_of_label keys R s [] [] r len h = refl
keys_of_label keys R s [] (l ∷ labels) r len h = refl
keys_of_label keys R s (c ∷ cs) [] r len h = absurd (omega (arith, len))
keys_of_label {K} keys R s (c ∷ cs) (l ∷ labels) r len h =
    let rest = keyed_from keys (s + 1) cs in
    let later = keys_of_label keys R (s + 1) cs labels r (omega (arith, len)) (λ j p a e. h (suc j) p (omega (arith, a)) (omega (arith, e))) in
    ap (map (λ k. k.0)) (filter_behind (λ k. R k.1 == r) (keyed_at s (keys c)) rest)
    ∙ map_behind (λ k. k.0) (filter (λ k. R k.1 == r) (keyed_at s (keys c))) (filter (λ k. R k.1 == r) rest)
    ∙ ap (λ (xs : List K). xs ++ map (λ k. k.0) (filter (λ k. R k.1 == r) rest)) (keys_at_one (λ p. R p == r) s (keys c))
    ∙ ap (λ (xs : List K). cond (R s == r) (keys c) [] ++ xs) later
    ∙ ap (λ (x : ℕ). cond (x == r) (keys c) [] ++ flat_map (λ l. keys l.conductor) (filter (λ l. l.label == r) (labelled_from (s + 1) cs labels))) (h 0 s (omega arith) (omega arith))
    ∙ by (l == r)
  where
    by : (b : Bool) → cond b (keys c) [] ++ flat_map (λ l. keys l.conductor) (filter (λ l. l.label == r) (labelled_from (s + 1) cs labels))
        ≡ flat_map (λ l. keys l.conductor) (cond b (record { place = s; label = l; conductor = c } ∷ filter (λ l. l.label == r) (labelled_from (s + 1) cs labels)) (filter (λ l. l.label == r) (labelled_from (s + 1) cs labels)))
    by true = refl
    by false = refl

rows_keyed : (s : ℕ) (cs : List FlatConductor) → keyed_rows s (map row_of cs) ≡ keyed_from (λ c. row_of c ∷ []) s cs
rows_keyed s [] = refl
rows_keyed s (c ∷ cs) = ap (λ (ks : List (Keyed FlatRow)). (row_of c, s) ∷ ks) (rows_keyed (s + 1) cs)

-- ---- what is taken in

stays_false : (g : GrowingClassData) (ls : List Labelled) → g.is_empty ≡ false → g.is_single_pin ≡ false → (fold with_row g (flat_map (λ l. row_of l.conductor ∷ []) ls)).is_single_pin ≡ false
stays_false g [] e f = f
stays_false g (l ∷ ls) e f = stays_false (with_row g (row_of l.conductor)) ls refl (rw e refl)

rows_single : (ls : List Labelled) → (fold with_row empty_class (flat_map (λ l. row_of l.conductor ∷ []) ls)).is_single_pin ≡ is_single_pin ls
rows_single [] = refl
rows_single (l ∷ []) = refl
rows_single (l ∷ m ∷ ls) = stays_false (with_row (with_row empty_class (row_of l.conductor)) (row_of m.conductor)) ls refl refl

rows_directive : (g : GrowingClassData) (ls : List Labelled) → (fold with_row g (flat_map (λ l. row_of l.conductor ∷ []) ls)).directive ≡ (g.directive || list_any is_of_directive ls)
rows_directive g [] = sym (or-false g.directive)
rows_directive g (l ∷ ls) = rows_directive (with_row g (row_of l.conductor)) ls ∙ or_assoc g.directive (is_of_directive l) (list_any is_of_directive ls)

rows_global : (g : GrowingClassData) (ls : List Labelled) → (fold with_row g (flat_map (λ l. row_of l.conductor ∷ []) ls)).global ≡ g.global
rows_global g [] = refl
rows_global g (l ∷ ls) = rows_global (with_row g (row_of l.conductor)) ls

rows_least : (g : GrowingClassData) (ls : List Labelled) → (fold with_row g (flat_map (λ l. row_of l.conductor ∷ []) ls)).least ≡ g.least
rows_least g [] = refl
rows_least g (l ∷ ls) = rows_least (with_row g (row_of l.conductor)) ls

globals_single : (g : GrowingClassData) (names : List (List ℕ)) → (fold with_global g names).is_single_pin ≡ g.is_single_pin
globals_single g [] = refl
globals_single g (n ∷ ns) = globals_single (with_global g n) ns

globals_directive : (g : GrowingClassData) (names : List (List ℕ)) → (fold with_global g names).directive ≡ g.directive
globals_directive g [] = refl
globals_directive g (n ∷ ns) = globals_directive (with_global g n) ns

globals_stay : (g : GrowingClassData) (names : List (List ℕ)) → g.global ≡ true → (fold with_global g names).global ≡ true
globals_stay g [] e = e
globals_stay g (n ∷ ns) e = globals_stay (with_global g n) ns refl

globals_global : (g : GrowingClassData) (names : List (List ℕ)) → g.global ≡ false → (fold with_global g names).global ≡ not (length names == 0)
globals_global g [] e = e
globals_global g (n ∷ ns) e = globals_stay (with_global g n) ns refl ∙ sym (rw (ne_eqb (length (n ∷ ns)) 0 (λ f. omega (arith, f))) refl)

globals_least : (g : GrowingClassData) (names : List (List ℕ)) → (fold with_global g names).least ≡ fold lesser g.least names
globals_least g [] = refl
globals_least g (n ∷ ns) = globals_least (with_global g n) ns

drawns_single : (g : GrowingClassData) (names : List (List ℕ)) → (fold with_drawn g names).is_single_pin ≡ g.is_single_pin
drawns_single g [] = refl
drawns_single g (n ∷ ns) = drawns_single (with_drawn g n) ns

drawns_directive : (g : GrowingClassData) (names : List (List ℕ)) → (fold with_drawn g names).directive ≡ g.directive
drawns_directive g [] = refl
drawns_directive g (n ∷ ns) = drawns_directive (with_drawn g n) ns

drawns_global : (g : GrowingClassData) (names : List (List ℕ)) → (fold with_drawn g names).global ≡ g.global
drawns_global g [] = refl
drawns_global g (n ∷ ns) = drawns_global (with_drawn g n) ns

drawns_least : (g : GrowingClassData) (names : List (List ℕ)) → (fold with_drawn g names).least ≡ fold lesser g.least names
drawns_least g [] = refl
drawns_least g (n ∷ ns) = drawns_least (with_drawn g n) ns

-- ---- names

filled_or : {A : Type 0} (xs ys : List A) → not (length (xs ++ ys) == 0) ≡ (not (length xs == 0) || not (length ys == 0))
filled_or [] ys = refl
filled_or (x ∷ xs) ys = rw (ne_eqb (length (x ∷ xs ++ ys)) 0 (λ e. omega (arith, e)), ne_eqb (length (x ∷ xs)) 0 (λ e. omega (arith, e))) refl

any_global : (ls : List Labelled) → not (length (flat_map (λ l. l.conductor.global_names) ls) == 0) ≡ list_any has_global_name ls
any_global [] = refl
any_global (l ∷ ls) = filled_or l.conductor.global_names (flat_map (λ l. l.conductor.global_names) ls) ∙ ap (λ (b : Bool). has_global_name l || b) (any_global ls)

first_insert : (names : List (List ℕ)) (name : List ℕ) → slice_get (insert_key by_name names name) 0 ≡ lesser (slice_get names 0) name
first_insert [] name = refl
first_insert (least ∷ names) name = by (by_name name least)
  where
    by : (r : Ordering) → slice_get (match_ordering r (name ∷ least ∷ names) (least ∷ names) (least ∷ insert_key by_name names name)) 0 ≡ match_ordering r (Some name) (Some least) (Some least)
    by Less = refl
    by Equal = refl
    by Greater = refl

-- the least name is the first one of the names in order
pub least_first : (kept names : List (List ℕ)) → fold lesser (slice_get kept 0) names ≡ slice_get (fold (insert_key by_name) kept names) 0
least_first kept [] = refl
least_first kept (name ∷ names) =
    ap (λ (least : Option (List ℕ)). fold lesser least names) (sym (first_insert kept name)) ∙ least_first (insert_key by_name kept name) names

any_behind : {A : Type 0} (t : A → Bool) (xs ys : List A) → list_any t (xs ++ ys) ≡ (list_any t xs || list_any t ys)
any_behind t [] ys = refl
any_behind t (x ∷ xs) ys = ap (λ (b : Bool). t x || b) (any_behind t xs ys) ∙ sym (or_assoc (t x) (list_any t xs) (list_any t ys))

or_swap : (a b c d : Bool) → ((a || b) || (c || d)) ≡ ((a || c) || (b || d))
or_swap true b c d = refl
or_swap false true true d = refl
or_swap false true false d = refl
or_swap false false c d = refl

-- names of two sorts, one by one or sort by sort
pub any_sorts : {X A : Type 0} (t : A → Bool) (g d : X → List A) (xs : List X) → list_any t (flat_map (λ x. g x ++ d x) xs) ≡ list_any t (flat_map g xs ++ flat_map d xs)
any_sorts t g d [] = refl
any_sorts t g d (x ∷ xs) =
    any_behind t (g x ++ d x) (flat_map (λ x. g x ++ d x) xs)
    ∙ ap (λ (b : Bool). b || list_any t (flat_map (λ x. g x ++ d x) xs)) (any_behind t (g x) (d x))
    ∙ ap (λ (b : Bool). (list_any t (g x) || list_any t (d x)) || b) (any_sorts t g d xs ∙ any_behind t (flat_map g xs) (flat_map d xs))
    ∙ or_swap (list_any t (g x)) (list_any t (d x)) (list_any t (flat_map g xs)) (list_any t (flat_map d xs))
    ∙ ap (λ (b : Bool). b || (list_any t (d x) || list_any t (flat_map d xs))) (sym (any_behind t (g x) (flat_map g xs)))
    ∙ ap (λ (b : Bool). list_any t (flat_map g (x ∷ xs)) || b) (sym (any_behind t (d x) (flat_map d xs)))
    ∙ sym (any_behind t (flat_map g (x ∷ xs)) (flat_map d (x ∷ xs)))

equal_name : (q x : List ℕ) → is_equal by_name q x ≡ true → q ≡ x
equal_name q x e = exact_bytes q x (then_equal _ _ (by (by_name q x) e))
  where
    by : (r : Ordering) → is_eq r ≡ true → r ≡ Equal
    by Less e = absurd (let f : false ≡ true = e in cc)
    by Equal e = refl
    by Greater e = absurd (let f : false ≡ true = e in cc)

found_name : (q : List ℕ) (xs : List (List ℕ)) → find (is_equal by_name q) xs ≡ cond (list_any (is_equal by_name q) xs) (Some q) None
found_name q [] = refl
found_name q (x ∷ xs) = by (is_equal by_name q x) refl (found_name q xs)
  where
    by : (b : Bool) → is_equal by_name q x ≡ b → find (is_equal by_name q) xs ≡ cond (list_any (is_equal by_name q) xs) (Some q) None
        → cond b (Some x) (find (is_equal by_name q) xs) ≡ cond (b || list_any (is_equal by_name q) xs) (Some q) None
    by true e h = ap Some (sym (equal_name q x e))
    by false e h = h

-- names in order are those of the same names
same_names : (xs ys : List (List ℕ)) → ((q : List ℕ) → list_any (is_equal by_name q) xs ≡ list_any (is_equal by_name q) ys) → once_in_order by_name xs ≡ once_in_order by_name ys
same_names xs ys h = once_is by_name_total ys (once_in_order by_name xs) (is_once_in_order by_name_total xs).rising
    (λ q. find_once by_name_total q xs ∙ found_name q xs ∙ ap (λ (b : Bool). cond b (Some q) None) (h q) ∙ sym (found_name q ys))

-- ---- all of it

-- what conductors and names of a class tell is what its net needs
grown_is : (ls : List Labelled) (g : GrowingClassData)
    → g ≡ fold with_drawn (fold with_global (fold with_row empty_class (flat_map (λ l. row_of l.conductor ∷ []) ls)) (flat_map (λ l. l.conductor.global_names) ls)) (flat_map (λ l. l.conductor.drawn_names) ls)
    → IsGrown g (net_class ls)
grown_is ls g e =
    let globals = flat_map (λ (l : Labelled). l.conductor.global_names) ls in
    let drawns = flat_map (λ (l : Labelled). l.conductor.drawn_names) ls in
    let rows = fold with_row empty_class (flat_map (λ (l : Labelled). row_of l.conductor ∷ []) ls) in
    let named = fold with_global rows globals in
    record {
      is_single_pin = ap (λ (g : GrowingClassData). g.is_single_pin) e ∙ drawns_single named drawns ∙ globals_single rows globals ∙ rows_single ls;
      global = ap (λ (g : GrowingClassData). g.global) e ∙ drawns_global named drawns ∙ globals_global rows globals (rows_global empty_class ls) ∙ any_global ls;
      directive = ap (λ (g : GrowingClassData). g.directive) e ∙ drawns_directive named drawns ∙ globals_directive rows globals ∙ rows_directive empty_class ls;
      least = ap (λ (g : GrowingClassData). g.least) e ∙ drawns_least named drawns
          ∙ ap (λ (l : Option (List ℕ)). fold lesser l drawns) (globals_least rows globals ∙ ap (λ (l : Option (List ℕ)). fold lesser l globals) (rows_least empty_class ls))
          ∙ sym (fold-append lesser None globals drawns)
          ∙ least_first [] (globals ++ drawns)
          ∙ ap (λ (names : List (List ℕ)). slice_get names 0) (same_names (globals ++ drawns) (flat_map (λ (l : Labelled). names_of l.conductor) ls)
          (λ q. sym (any_sorts (is_equal by_name q) (λ (l : Labelled). l.conductor.global_names) (λ (l : Labelled). l.conductor.drawn_names) ls)));
    }

module _ (conductors : List FlatConductor) (labels : List ℕ) (len : length labels ≡ length conductors) where
  abbrev rows : List FlatRow
  rows = map row_of conductors

  abbrev globals : List (Keyed (List ℕ))
  globals = keyed_from (λ c. c.global_names) 0 conductors

  abbrev drawns : List (Keyed (List ℕ))
  drawns = keyed_from (λ c. c.drawn_names) 0 conductors

  abbrev empty : List GrowingClassData
  empty = replicate (length rows) empty_class

  rows_length : (cs : List FlatConductor) → length (map row_of cs) ≡ length cs
  rows_length [] = refl
  rows_length (c ∷ cs) = ap (λ (n : ℕ). suc n) (rows_length cs)

  pub grown_length : length (grown rows globals drawns labels) ≡ length conductors
  grown_length =
      taken_length (label_at labels) with_drawn _ drawns ∙ taken_length (label_at labels) with_global _ globals ∙ taken_length (label_at labels) with_row empty (keyed_rows 0 rows)
      ∙ length-replicate (length rows) empty_class ∙ rows_length conductors

  of_label : {K : Type 0} (keys : FlatConductor → List K) (r : ℕ)
      → map (λ k. k.0) (filter (λ k. label_at labels k == r) (keyed_from keys 0 conductors)) ≡ flat_map (λ l. keys l.conductor) (filter (λ l. l.label == r) (labelled_from 0 conductors labels))
  of_label keys r = keys_of_label keys (slice_index labels) 0 conductors labels r len (λ j p a e. ap (slice_index labels) (let f : p ≡ j = omega (arith, e) in f))

  pub grown_told : (r : ℕ) → r < length conductors → IsGrown (get_or (grown rows globals drawns labels) r empty_class) (net_class_of (labelled_from 0 conductors labels) r)
  grown_told r h =
      let of_rows = taken_in (label_at labels) with_row empty (keyed_rows 0 rows) in
      let of_globals = taken_in (label_at labels) with_global of_rows globals in
      let ls = filter (λ l. l.label == r) (labelled_from 0 conductors labels) in
      let count : length empty ≡ length conductors = length-replicate (length rows) empty_class ∙ rows_length conductors in
      let count_rows : length of_rows ≡ length conductors = taken_length (label_at labels) with_row empty (keyed_rows 0 rows) ∙ count in
      let count_globals : length of_globals ≡ length conductors = taken_length (label_at labels) with_global of_rows globals ∙ count_rows in
      grown_is ls (get_or (grown rows globals drawns labels) r empty_class)
      (taken_at (label_at labels) with_drawn of_globals drawns r (omega (arith, h, count_globals))
      ∙ ap (fold with_drawn (get_or of_globals r empty_class)) (of_label (λ c. c.drawn_names) r)
      ∙ ap (λ (g : GrowingClassData). fold with_drawn g (flat_map (λ l. l.conductor.drawn_names) ls)) (
      taken_at (label_at labels) with_global of_rows globals r (omega (arith, h, count_rows))
      ∙ ap (fold with_global (get_or of_rows r empty_class)) (of_label (λ c. c.global_names) r)
      ∙ ap (λ (g : GrowingClassData). fold with_global g (flat_map (λ l. l.conductor.global_names) ls)) (
      taken_at (label_at labels) with_row empty (keyed_rows 0 rows) r (omega (arith, h, count))
      ∙ ap (λ (g : GrowingClassData). fold with_row g (map (λ k. k.0) (filter (λ k. label_at labels k == r) (keyed_rows 0 rows)))) (get_or-replicate (length rows) r empty_class empty_class (omega (arith, h, rows_length conductors)))
      ∙ ap (λ (ks : List (Keyed FlatRow)). fold with_row empty_class (map (λ k. k.0) (filter (λ k. label_at labels k == r) ks))) (rows_keyed 0 conductors)
      ∙ ap (fold with_row empty_class) (of_label (λ c. row_of c ∷ []) r))))
