-- What was gathered from a hash map and then sorted.
use Rattle.std.proofs.Common.{◌≡◌, ◌==◌, ℕ, ◌<◌, List, [], ◌∷◌, map, length, Bor, refl, sym, ap, subst, ◌∙◌, arith}
use Rattle.std.specs.List.{IsDistinct, filter}
use Rattle.std.specs.List.Sorted.{IsPermutation, IsSorted, IsNonDecreasing, IsNonDecreasingBy}
use Rattle.std.specs.Map.{keys_of}
use Rattle.std.specs.Str.{bytes_eq}
use Rattle.std.specs.Ordering.{nat_cmp}
use Rattle.std.specs.Cmp.Lexicographic.{slice_cmp}
use Rattle.std.specs.FinMap.{entries, from_entries}
use Rattle.std.proofs.lemmas.List.{get_or-map, length-map}
use Rattle.std.proofs.lemmas.List.Sorted.{IsPermutation-map}
use Rattle.std.proofs.lemmas.Map.Keys.{IsDistinct-IsPermutation, IsStrictlyIncreasing-from_distinct, sorted_from_strictly_increasing}
use Rattle.std.proofs.lemmas.Map.Made.{IsDistinct-keys_filter}
use Rattle.project_model.specs.declared.change.Placed.{Placed}
use Rattle.project_model.specs.Tables.{row_now}
use Rattle.project_model.specs.Projects.{is_on}
use Rattle.project_model.specs.steps.TableRows.{ids_in_rows}
use Rattle.project_model.proofs.Rows.{ids, names, key_equal}
use Rattle.project_model.proofs.OrderedRows.{keys_rise, keys_in_order, rows_in_order, filter_in_order}

-- the ids of a sheet's objects
pub ids_sorted : (name : List ℕ) (rows : List (ℕ × Placed)) (found sorted : List ℕ) → IsDistinct ◌==◌ (keys_of rows) → found ≡ ids_in_rows name rows → IsPermutation found sorted → IsSorted nat_cmp sorted → sorted ≡ keys_of (filter (is_on name) (entries (from_entries {R = nat_cmp} rows)))
ids_sorted name rows found sorted d e p s =
    let q : IsPermutation (ids_in_rows name rows) sorted = subst (λ ls. IsPermutation ls sorted) e p in
    let unique = IsDistinct-IsPermutation ◌==◌ (key_equal ids).symm (ids_in_rows name rows) sorted q (IsDistinct-keys_filter ◌==◌ (is_on name) rows d) in
    keys_in_order ids (filter (is_on name) rows) sorted q (keys_rise ids sorted 0 s unique)
    ∙ ap keys_of (filter_in_order ids (λ (placed : Placed). bytes_eq placed.sheet name) rows d)

-- the names of a table's rows
pub names_sorted : {X : Type 0} (rows : List (List ℕ × X)) (found sorted : List (List ℕ)) → IsDistinct bytes_eq (keys_of rows) → found ≡ keys_of rows → IsPermutation found sorted → IsSorted (slice_cmp nat_cmp) sorted → sorted ≡ keys_of (entries (from_entries {R = slice_cmp nat_cmp} rows))
names_sorted rows found sorted d e p s =
    let q : IsPermutation (keys_of rows) sorted = subst (λ ls. IsPermutation ls sorted) e p in
    let unique = IsDistinct-IsPermutation bytes_eq (key_equal names).symm (keys_of rows) sorted q d in
    keys_in_order names rows sorted q (keys_rise names sorted [] s unique)

module _ {X : Type 0} where
  keys_of-now : (rows : List (ℕ × Bor X)) → keys_of (map row_now rows) ≡ map (λ row. row.0) rows
  keys_of-now [] = refl
  keys_of-now (row ∷ rows) = ap (◌∷◌ row.0) (keys_of-now rows)

  keys_do_not_fall : (rows : List (ℕ × Bor X)) → IsNonDecreasingBy (λ row. row.0) rows → IsNonDecreasing (map (λ row. row.0) rows)
  keys_do_not_fall [] h = λ i j d le lt. absurd (omega arith)
  keys_do_not_fall (row ∷ rows) h = λ i j d le lt.
      let all = row ∷ rows in
      let short : j < length all = subst (λ n. j < n) (length-map all (λ r. r.0)) lt in
      rw (get_or-map (λ (r : ℕ × Bor X). r.0) all i row d (omega arith), get_or-map (λ (r : ℕ × Bor X). r.0) all j row d short) (h i j row le short)

  -- the rows of a table, which is lent
  pub rows_sorted_by_id : (rows : List (ℕ × X)) (found sorted : List (ℕ × Bor X)) → IsDistinct ◌==◌ (keys_of rows) → map row_now found ≡ rows → IsPermutation found sorted → IsNonDecreasingBy (λ row. row.0) sorted → map row_now sorted ≡ entries (from_entries {R = nat_cmp} rows)
  rows_sorted_by_id rows found sorted d e p s =
      let q : IsPermutation rows (map row_now sorted) = subst (λ ls. IsPermutation ls (map row_now sorted)) e (IsPermutation-map row_now found sorted p) in
      let unique = IsDistinct-IsPermutation ◌==◌ (key_equal ids).symm (keys_of rows) (keys_of (map row_now sorted)) (IsPermutation-map (λ row. row.0) rows (map row_now sorted) q) d in
      let rising : IsNonDecreasing (keys_of (map row_now sorted)) = subst IsNonDecreasing (sym (keys_of-now sorted)) (keys_do_not_fall sorted s) in
      rows_in_order ids rows (map row_now sorted) q d (sorted_from_strictly_increasing _ (IsStrictlyIncreasing-from_distinct _ rising unique))
