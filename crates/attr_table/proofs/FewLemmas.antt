-- A table without a fault makes no more components than the sheet has.
use Rattle.std.proofs.Common.{◌≡◌, ◌∙◌, ◌+◌, ◌≤◌, ◌++◌, ◌∷◌, ◌||◌, [], ℕ, suc, List, Bool, true, false, not, cond, Option, None, Some, refl, sym, ap, arith, length, filter_map, eqb, eqb-true, nat_cmp, ◌==◌}
use Rattle.std.specs.Prelude.{IsSome, is_some, min}
use Rattle.std.specs.Cmp.{nat_eq_equiv, unsigned_ties}
use Rattle.std.specs.FinMap as finite
use Rattle.std.specs.FinMap.{get-entries}
use Rattle.std.specs.List.{AllByRecursion, IsDistinct, cons_option, flat_map, list_any}
use Rattle.std.specs.Map.{lookup}
use Rattle.std.specs.Option.{option_and_then, option_map}
use Rattle.std.specs.Ordering.{eq_by_cmp}
use Rattle.std.proofs.lemmas.Bool.Decides.{nat_tests}
use Rattle.std.proofs.lemmas.List.Folds.{list_any-append}
use Rattle.std.proofs.lemmas.Map.Steps.{length-le_from_keys}
use Rattle.geda_model.specs.Sheets.{ObjectData}
use Rattle.project_model.specs.Projects.{ProjectData}
use Rattle.project_model.specs.declared.change.Placed.{Placed}
use Rattle.attr_table.specs.declared.fault.TableFault.{TableFault}
use Rattle.attr_table.specs.Filling.{filled_by, filled_components}
use Rattle.attr_table.specs.Records.{Record, each_after, first_record_field, later_fields}
use Rattle.attr_table.specs.SheetTables.{component_in, components_in, numbered_in}
use Rattle.attr_table.specs.TableFaults.{bad_value_column, component_at, component_named, first_table_fault, has_no_text, head_faults, id_of, is_bad_id, is_named_in, names_id, row_after, row_faults, table_fault, fault_if}
use Rattle.attr_table.specs.declared.fault.TableFault.TheVariants as faults

none_of : {A : Type 0} {P : Type 0} (x : A) → Some x ≡ None → P
none_of x e = absurd (let t : Some x ≡ None = e in cc)

falsely : {P : Type 0} → true ≡ false → P
falsely e = absurd (let t : true ≡ false = e in cc)

falsely_too : {P : Type 0} → false ≡ true → P
falsely_too e = absurd (let t : false ≡ true = e in cc)

-- no fault in all is none in each part
pub no_fault_left : (xs ys : List (Option TableFault)) → first_table_fault (xs ++ ys) ≡ None → (first_table_fault xs ≡ None) × (first_table_fault ys ≡ None)
no_fault_left [] ys e = (refl, e)
no_fault_left (None ∷ xs) ys e = no_fault_left xs ys e
no_fault_left (Some fault ∷ xs) ys e = none_of fault e

when_none : (b : Bool) (fault : TableFault) → fault_if b fault ≡ None → b ≡ false
when_none true fault e = none_of fault e
when_none false fault e = refl

-- the parts of a list of faults that has none
pub head_none : (o : Option TableFault) (rest : List (Option TableFault)) → first_table_fault (o ∷ rest) ≡ None → (o ≡ None) × (first_table_fault rest ≡ None)
head_none None rest e = (refl, e)
head_none (Some fault) rest e = none_of fault e

or_parts : (a b : Bool) → (a || b) ≡ false → (a ≡ false) × (b ≡ false)
or_parts true b e = falsely e
or_parts false b e = (refl, e)

-- what holds of a record without a fault
pub record IsGoodRow (p : ProjectData) (sheet : List ℕ) (head : Record) (earlier : List Record) (fields : Record) : Type 0 where
  pub text : has_no_text fields ≡ false
  pub width : (length fields == length head) ≡ true
  pub id : is_bad_id p sheet earlier fields ≡ false
  pub value : bad_value_column p sheet (later_fields head) fields ≡ None

not_not : (b : Bool) → not b ≡ false → b ≡ true
not_not true e = refl
not_not false e = falsely e

pub map_none : {A B : Type 0} (f : A → B) (o : Option A) → option_map f o ≡ None → o ≡ None
map_none f None e = refl
map_none f (Some x) e = none_of (f x) e

pub good_row : (p : ProjectData) (sheet : List ℕ) (head : Record) (earlier : List Record) (fields : Record)
    → first_table_fault (row_faults p sheet head (earlier, fields)) ≡ None → IsGoodRow p sheet head earlier fields
good_row p sheet head earlier fields e =
    let a = head_none _ _ e in
    let b = head_none _ _ a.1 in
    let c = head_none _ _ b.1 in
    let d = head_none _ _ c.1 in
    record {
      text = when_none (has_no_text fields) (faults.NotUtf8 (row_after earlier)) a.0;
      width = not_not (length fields == length head) (when_none (not (length fields == length head)) (faults.BadWidth (row_after earlier)) b.0);
      id = when_none (is_bad_id p sheet earlier fields) (faults.BadId (row_after earlier)) c.0;
      value = map_none (faults.BadValue (row_after earlier)) (bad_value_column p sheet (later_fields head) fields) d.0;
    }

-- the component of a record without a fault
pub record HasComponent (p : ProjectData) (sheet : List ℕ) (earlier : List Record) (fields : Record) : Type 0 where
  pub id : ℕ
  pub o : ObjectData
  pub named : id_of (first_record_field fields) ≡ Some id
  pub there : component_at p sheet id ≡ Some o
  pub fresh : list_any (names_id id) earlier ≡ false

pub good_id : (p : ProjectData) (sheet : List ℕ) (earlier : List Record) (fields : Record) → is_bad_id p sheet earlier fields ≡ false → HasComponent p sheet earlier fields
good_id p sheet earlier fields e = by (id_of (first_record_field fields)) refl (or_parts (not (is_some (component_named p sheet (first_record_field fields)))) (is_named_in earlier (id_of (first_record_field fields))) e)
  where
    found : (id : ℕ) → id_of (first_record_field fields) ≡ Some id → list_any (names_id id) earlier ≡ false → (m : Option ObjectData) → component_at p sheet id ≡ m
        → not (is_some m) ≡ false → HasComponent p sheet earlier fields
    found id named fresh None there gone = falsely gone
    found id named fresh (Some o) there gone = record { id = id; o = o; named = named; there = there; fresh = fresh }

    by : (m : Option ℕ) → id_of (first_record_field fields) ≡ m
        → (not (is_some (option_and_then (component_at p sheet) (id_of (first_record_field fields)))) ≡ false) × (is_named_in earlier (id_of (first_record_field fields)) ≡ false)
        → HasComponent p sheet earlier fields
    by None named h = falsely (let t : true ≡ false = rw named at h.0 in t)
    by (Some id) named h = found id named (rw named at h.1) (component_at p sheet id) refl (rw named at h.0)

-- the ids that records name
abbrev pub ids_of : List Record → List ℕ
ids_of rows = filter_map (λ (fields : Record). id_of (first_record_field fields)) rows

abbrev pub AreGoodRows : ProjectData → List ℕ → Record → List Record → List Record → Type 0
AreGoodRows p sheet head earlier rows = first_table_fault (flat_map (row_faults p sheet head) (each_after earlier rows)) ≡ None

-- each is there, is no earlier one, and none stands twice
pub record AreIds (p : ProjectData) (sheet : List ℕ) (earlier rows : List Record) : Type 0 where
  pub many : length (ids_of rows) ≡ length rows
  pub there : (q : ℕ) → list_any (eqb q) (ids_of rows) ≡ true → IsSome (component_at p sheet q)
  pub fresh : (q : ℕ) → list_any (eqb q) (ids_of rows) ≡ true → list_any (names_id q) earlier ≡ false
  pub distinct : IsDistinct eqb (ids_of rows)

same_id : (q id : ℕ) → eqb q id ≡ true → q ≡ id
same_id q id e = eqb-true q id e

some_there : {A : Type 0} (m : Option A) (x : A) → m ≡ Some x → IsSome m
some_there m x e = rw e refl

-- one test or the other
either_of : {P : Type 0} (a b : Bool) → (a || b) ≡ true → (a ≡ true → P) → (b ≡ true → P) → P
either_of true b e f g = f refl
either_of false b e f g = g e

no_longer : (q : ℕ) (earlier : List Record) (fields : Record) → list_any (names_id q) (earlier ++ fields ∷ []) ≡ false
    → (list_any (names_id q) earlier ≡ false) × (names_id q fields ≡ false)
no_longer q earlier fields e =
    let parts = or_parts (list_any (names_id q) earlier) (names_id q fields || false) (sym (list_any-append (names_id q) earlier (fields ∷ [])) ∙ e) in
    (parts.0, (or_parts (names_id q fields) false parts.1).0)

not_in : (b : Bool) → (b ≡ true → ⊥) → b ≡ false
not_in true f = absurd (f refl)
not_in false f = refl

self_same : (n : ℕ) → eqb n n ≡ true
self_same n = grind (arith, nat_tests)

none_any : (p : ℕ → Bool) (xs : List ℕ) → list_any p xs ≡ false → AllByRecursion (λ y. p y ≡ false) xs
none_any p [] e = tt
none_any p (x ∷ xs) e = let parts = or_parts (p x) (list_any p xs) e in (parts.0, none_any p xs parts.1)

distinct_none : IsDistinct eqb []
unfolding IsDistinct
distinct_none = tt

distinct_more : (id : ℕ) (ids : List ℕ) → list_any (eqb id) ids ≡ false → IsDistinct eqb ids → IsDistinct eqb (id ∷ ids)
unfolding IsDistinct
distinct_more id ids e d = (none_any (eqb id) ids e, d)

-- the id of a record is not that of one after it
pub apart_id : (p : ProjectData) (sheet : List ℕ) (earlier : List Record) (fields : Record) (rows : List Record) (h : HasComponent p sheet earlier fields)
    → AreIds p sheet (earlier ++ fields ∷ []) rows → list_any (eqb h.id) (ids_of rows) ≡ false
apart_id p sheet earlier fields rows h a =
    let named : names_id h.id fields ≡ true = rw h.named (self_same h.id) in
    not_in (list_any (eqb h.id) (ids_of rows)) (λ is. falsely (sym named ∙ (no_longer h.id earlier fields (a.fresh h.id is)).1))

more_ids : (p : ProjectData) (sheet : List ℕ) (earlier : List Record) (fields : Record) (rows : List Record) → HasComponent p sheet earlier fields
    → AreIds p sheet (earlier ++ fields ∷ []) rows → AreIds p sheet earlier (fields ∷ rows)
more_ids p sheet earlier fields rows h a =
    let apart = apart_id p sheet earlier fields rows h a in
    let ids : ids_of (fields ∷ rows) ≡ h.id ∷ ids_of rows = rw h.named refl in
    record {
      many = rw ids (ap suc a.many);
      there = λ q k. either_of (eqb q h.id) (list_any (eqb q) (ids_of rows)) (rw ids at k) (λ is. rw (same_id q h.id is) (some_there (component_at p sheet h.id) h.o h.there)) (a.there q);
      fresh = λ q k. either_of (eqb q h.id) (list_any (eqb q) (ids_of rows)) (rw ids at k) (λ is. rw (same_id q h.id is) h.fresh) (λ is. (no_longer q earlier fields (a.fresh q is)).0);
      distinct = rw ids (distinct_more h.id (ids_of rows) apart a.distinct);
    }

pub are_ids : (p : ProjectData) (sheet : List ℕ) (head : Record) (earlier rows : List Record) → AreGoodRows p sheet head earlier rows → AreIds p sheet earlier rows
are_ids p sheet head earlier [] e = record { many = refl; there = λ q h. falsely_too h; fresh = λ q h. falsely_too h; distinct = distinct_none }
are_ids p sheet head earlier (fields ∷ rows) e =
    let parts = no_fault_left (row_faults p sheet head (earlier, fields)) (flat_map (row_faults p sheet head) (each_after (earlier ++ fields ∷ []) rows)) e in
    more_ids p sheet earlier fields rows (good_id p sheet earlier fields (good_row p sheet head earlier fields parts.0).id)
    (are_ids p sheet head (earlier ++ fields ∷ []) rows parts.1)

pub good_rows : (p : ProjectData) (sheet : List ℕ) (head : Record) (rows : List Record) → table_fault p sheet (head ∷ rows) ≡ None → AreGoodRows p sheet head (head ∷ []) rows
unfolding table_fault
good_rows p sheet head rows e = (no_fault_left (head_faults head) (flat_map (row_faults p sheet head) (each_after (head ∷ []) rows)) e).1

-- an object of the sheet is among its components
listed : (sheet : List ℕ) (q : ℕ) (es : List (ℕ × Placed)) → IsSome (option_and_then (component_in sheet) (finite.find nat_cmp q es))
    → IsSome (lookup (eqb q) (filter_map (numbered_in sheet) es))
listed sheet q [] h = falsely_too h
listed sheet q (e ∷ es) h = by (eq_by_cmp nat_cmp q e.0) (unsigned_ties q e.0) h (listed sheet q es)
  where
    shown : (m : Option ObjectData) → (eqb q e.0 ≡ true) → IsSome m → IsSome (lookup (eqb q) (cons_option (option_map (λ o. (e.0, o)) m) (filter_map (numbered_in sheet) es)))
    shown None same h = falsely_too h
    shown (Some o) same h = rw same refl

    passed : (m : Option ObjectData) → (eqb q e.0 ≡ false) → IsSome (lookup (eqb q) (filter_map (numbered_in sheet) es))
        → IsSome (lookup (eqb q) (cons_option (option_map (λ o. (e.0, o)) m) (filter_map (numbered_in sheet) es)))
    passed None same h = h
    passed (Some o) same h = rw same h

    by : (b : Bool) → eqb q e.0 ≡ b → IsSome (option_and_then (component_in sheet) (cond b (Some e.1) (finite.find nat_cmp q es)))
        → (IsSome (option_and_then (component_in sheet) (finite.find nat_cmp q es)) → IsSome (lookup (eqb q) (filter_map (numbered_in sheet) es)))
        → IsSome (lookup (eqb q) (cons_option (numbered_in sheet e) (filter_map (numbered_in sheet) es)))
    by true same h later = shown (component_in sheet e.1) same h
    by false same h later = passed (component_in sheet e.1) same (later h)

in_components : (p : ProjectData) (sheet : List ℕ) (q : ℕ) → IsSome (component_at p sheet q) → IsSome (lookup (eqb q) (components_in p sheet))
in_components p sheet q h = listed sheet q (finite.entries p.objects) (rw (get-entries p.objects q) at h)

filtered_le : {A B : Type 0} (f : A → Option B) (xs : List A) → length (filter_map f xs) ≤ length xs
filtered_le f [] = omega arith
filtered_le {A} {B} f (x ∷ xs) = by (f x) (filtered_le f xs)
  where
    by : (m : Option B) → length (filter_map f xs) ≤ length xs → length (cons_option m (filter_map f xs)) ≤ length (x ∷ xs)
    by None h = omega (arith, h)
    by (Some y) h = omega (arith, h)

-- at most as many as the sheet has components
pub filled_few : (p : ProjectData) (sheet : List ℕ) (records : List Record) → table_fault p sheet records ≡ None
    → length (filled_components p sheet records) ≤ length (components_in p sheet)
filled_few p sheet [] e = omega arith
filled_few p sheet (head ∷ rows) e =
    let ids = are_ids p sheet head (head ∷ []) rows (good_rows p sheet head rows e) in
    let few = length-le_from_keys nat_eq_equiv (ids_of rows) (components_in p sheet) ids.distinct (λ q h. in_components p sheet q (ids.there q h)) in
    let made = filtered_le (filled_by p sheet (later_fields head)) rows in
    let many = ids.many in
    omega (arith, few, made, many)

-- and at most as many as there are records
pub filled_rows : (p : ProjectData) (sheet : List ℕ) (records : List Record) → length (filled_components p sheet records) ≤ length records
filled_rows p sheet [] = omega arith
filled_rows p sheet (head ∷ rows) =
    let made = filtered_le (filled_by p sheet (later_fields head)) rows in
    omega (arith, made)

-- what is at most each of two numbers is at most the lesser
pub below_both : (first n a b most : ℕ) → n ≤ a → n ≤ b → first + min a b ≤ most → first + n ≤ most
below_both first n a b most one other last = grind (arith, nat_tests)
