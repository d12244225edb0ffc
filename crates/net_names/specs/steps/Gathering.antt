-- Steps of the code; no public clause cites them.
-- What is told of the class of each label, taken in one by one.
use Rattle.std.specs.Prelude.{◌≡◌, ℕ, ◌<◌, ◌&&◌, ◌||◌, not, Bool, true, false, List, [], ◌∷◌, Option, Some, None, is_some, length, replicate, slice_get, slice_index, slice_index_or, slice_set}
use Rattle.std.specs.Ordering.{match_ordering}
use Rattle.geda_defs.specs.Order.{once_in_order}
use Rattle.flat_rows.specs.Keyed.{Keyed, keyed_from}
use Rattle.flat_rows.specs.declared.rows.FlatRow.{FlatRow}
use Rattle.net_list.specs.declared.nets.NetSort.{NetSort}
use Rattle.net_list.specs.declared.nets.NetSort.TheVariants as sorts
use Rattle.net_names.specs.NetClasses.{NetClassData, is_drawn_pin}
use Rattle.net_names.specs.NetLists.{by_name}

-- each label is below the count
abbrev pub ArePlaces : List ℕ → ℕ → Type 0
ArePlaces labels count = (i : ℕ) → i < length labels → slice_index labels i < count

-- a class while it grows: whether it has no conductor yet, whether it is a single drawn pin,
-- whether it has a global name, whether it has a pin of a no-connection directive, and the least of
-- its names
pub record GrowingClassData : Type 0 where
  pub is_empty : Bool
  pub is_single_pin : Bool
  pub global : Bool
  pub directive : Bool
  pub least : Option (List ℕ)

-- without conductors
abbrev pub empty_class : GrowingClassData
empty_class = record {
  is_empty = true;
  is_single_pin = false;
  global = false;
  directive = false;
  least = None;
}

-- the lesser one of a name and of the least so far; of two equal ones the former
abbrev pub lesser : Option (List ℕ) → List ℕ → Option (List ℕ)
lesser None name = Some name
lesser (Some least) name =
    match_ordering (by_name name least) (Some name) (Some least) (Some least)

-- with one more conductor
abbrev pub with_row : GrowingClassData → FlatRow → GrowingClassData
with_row g row = record {
  is_empty = false;
  is_single_pin = g.is_empty && is_drawn_pin row.shape;
  global = g.global;
  directive = g.directive || row.directive;
  least = g.least;
}

-- with one more drawn name
abbrev pub with_drawn : GrowingClassData → List ℕ → GrowingClassData
with_drawn g name = record {
  is_empty = g.is_empty;
  is_single_pin = g.is_single_pin;
  global = g.global;
  directive = g.directive;
  least = lesser g.least name;
}

-- with one more global name
abbrev pub with_global : GrowingClassData → List ℕ → GrowingClassData
with_global g name = record {
  is_empty = g.is_empty;
  is_single_pin = g.is_single_pin;
  global = true;
  directive = g.directive;
  least = lesser g.least name;
}

-- rows with their places, of which the first is this
abbrev pub keyed_rows : ℕ → List FlatRow → List (Keyed FlatRow)
keyed_rows place rows = keyed_from (λ row. row ∷ []) place rows

-- the label at the place of a key
abbrev pub label_at : {K : Type 0} → List ℕ → Keyed K → ℕ
label_at labels k = slice_index labels k.1

-- the classes of all labels, with one more key
abbrev pub with_key : {K : Type 0} → (Keyed K → ℕ) → (GrowingClassData → K → GrowingClassData)
    → List GrowingClassData → Keyed K → List GrowingClassData
with_key label take growing k =
    slice_set growing (label k) (take (slice_index_or growing (label k) empty_class) k.0)

-- and with several
abbrev pub taken_in : {K : Type 0} → (Keyed K → ℕ) → (GrowingClassData → K → GrowingClassData)
    → List GrowingClassData → List (Keyed K) → List GrowingClassData
taken_in label take growing [] = growing
taken_in label take growing (k ∷ ks) = taken_in label take (with_key label take growing k) ks

-- all rows and all names put into the classes of their labels
abbrev pub grown : List FlatRow → List (Keyed (List ℕ)) → List (Keyed (List ℕ)) → List ℕ
    → List GrowingClassData
grown rows globals drawns labels =
    let empty = replicate (length rows) empty_class in
    let of_rows = taken_in (label_at labels) with_row empty (keyed_rows 0 rows) in
    let of_globals = taken_in (label_at labels) with_global of_rows globals in
    taken_in (label_at labels) with_drawn of_globals drawns

-- a single drawn pin is unconnected; whatever else has no name is unnamed
abbrev pub is_of_sort : NetSort → Bool → Bool
is_of_sort sorts.Unconnected single = single
is_of_sort other single = not single

-- it has no name, and its net is of this sort
abbrev pub is_nameless : NetSort → GrowingClassData → Bool
is_nameless sort g = not (is_some g.least) && is_of_sort sort g.is_single_pin

-- what was gathered of a class is what its net needs
pub record IsGrown (g : GrowingClassData) (c : NetClassData) : Type 0 where
  pub is_single_pin : g.is_single_pin ≡ c.is_single_pin
  pub global : g.global ≡ c.global
  pub directive : g.directive ≡ c.directive
  pub least : g.least ≡ slice_get (once_in_order by_name c.names) 0
