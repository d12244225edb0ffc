-- The group of a key by rows whose keys rise.
use Rattle.std.proofs.Common.{arith, ◌≡◌, ◌<◌, ◌+◌, ℕ, List, Some, None, get_or, length, ap, sym}
use Rattle.std.proofs.Common.{◌∙◌, inl, inr}
use Rattle.std.specs.List.{slice_get}
use Rattle.std.specs.List.Sorted.{IsNonDecreasingBy, IsPartitionPoint, IsSortedBy, IsStrictlySortedBy}
use Rattle.std.specs.Map.{keys_of}
use Rattle.std.specs.Ordering.{is_lt, ordering_index, ordering_reverse}
use Rattle.std.specs.declared.cmp.Ordering.TheVariants.{Less, Equal, Greater}
use Rattle.std.proofs.lemmas.Bool.{cases_lt}
use Rattle.std.proofs.lemmas.Cmp.{eq_by_cmp_equiv}
use Rattle.std.proofs.lemmas.List.{get_or-map, length-map}
use Rattle.std.proofs.lemmas.List.Sorted.{searchable_from_sorted}
use Rattle.std.proofs.lemmas.Map.Entries.{lookup_at_gap, lookup_from_place}
use Rattle.std.proofs.lemmas.Map.Keys.{IsDistinct-from_sorted, Less-from_sorted}
use Rattle.std.proofs.lemmas.Option.{get_or_from_slice_get, slice_get-get_or, slice_get_within}
use Rattle.geda_geom.specs.declared.conductor.Key.{Key}
use Rattle.geda_geom.specs.Keys.{by_key}
use Rattle.geda_geom.proofs.KeyLemmas.{by_key_total, exact_keys}
use Rattle.link_classes.specs.InstanceGroups.{groups_by}
use Rattle.link_classes.specs.steps.GroupRows.{IsRow}

module _ (rows : List (Key × Key)) (rising : IsStrictlySortedBy by_key (keys_of rows)) where
  -- a row has the group of its key
  pub group_of_row : (i : ℕ) (key group : Key) → slice_get rows i ≡ Some (key, group) → groups_by rows key ≡ Some group
  group_of_row i key group = lookup_from_place (eq_by_cmp_equiv by_key_total) rows i key group (IsDistinct-from_sorted by_key (keys_of rows) rising)

  -- the row of a key has its group
  pub group_found : (key : Key) (at : ℕ) → IsRow rows key at → (row : Key × Key)
      → groups_by rows key ≡ Some (get_or rows at row).1
  group_found key at is row =
      group_of_row at key (get_or rows at row).1
      (slice_get-get_or rows at row is.within
      ∙ ap (λ (k : Key). Some (k, (get_or rows at row).1)) (is.is row))

  -- the keys of rows rise
  rises : (i j : ℕ) (row : Key × Key) → i < j → j < length rows
      → by_key (get_or rows i row).0 (get_or rows j row).0 ≡ Less
  rises i j row low high =
      let long = length-map rows (λ (row : Key × Key). row.0) in
      let key : (k : ℕ) → k < length rows
      → get_or (keys_of rows) k row.0 ≡ (get_or rows k row).0 =
      λ k lt. get_or-map (λ (row : Key × Key). row.0) rows k row row.0 lt in
      let less : by_key (get_or (keys_of rows) i row.0) (get_or (keys_of rows) j row.0) ≡ Less =
      Less-from_sorted by_key (keys_of rows) i j row.0 rising low (omega (arith, long, high)) in
      (λ k. by_key (sym (key i (omega (arith, high, low))) k) (sym (key j high) k)) ∙ less

  -- keys of two rows are two
  apart : (i j : ℕ) (row : Key × Key) → i < j → j < length rows
      → (get_or rows i row).0 ≡ (get_or rows j row).0 → ⊥
  apart i j row low high same =
      let less : by_key (get_or rows j row).0 (get_or rows j row).0 ≡ Less =
      ap (λ (k : Key). by_key k (get_or rows j row).0) (sym same) ∙ rises i j row low high in
      let turned : Less ≡ Greater = sym less
      ∙ by_key_total.antisymm (get_or rows j row).0 (get_or rows j row).0
      ∙ ap ordering_reverse less in
      absurd (cc)

  -- rows with one key are one row
  pub one_row : (i j : ℕ) (row : Key × Key) → i < length rows → j < length rows
      → (get_or rows i row).0 ≡ (get_or rows j row).0 → i ≡ j
  one_row i j row first second same = elim (cases_lt i j) [
    | inl less ↦ absurd (apart i j row less second same)
    | inr le ↦ elim (cases_lt j i) [
      | inl less ↦ absurd (apart j i row less first (sym same))
      | inr other ↦ omega (arith, le, other)
    ]
  ]

  rows_sorted : IsSortedBy (λ a b. is_lt (by_key a.0 b.0)) rows
  rows_sorted k d low high =
      let x = (get_or rows k d).0 in
      let y = (get_or rows (k + 1) d).0 in
      let rise = rises k (k + 1) d (omega arith) high in
      ap is_lt (by_key_total.antisymm y x ∙ ap ordering_reverse rise)

  -- the comparisons with a key rise, as a search asks
  pub comparisons_rise : (key : Key) → IsNonDecreasingBy (λ row. ordering_index (by_key row.0 key)) rows
  comparisons_rise key = searchable_from_sorted by_key_total (λ row. row.0) rows key rows_sorted

  -- where a search ends at a row, it is that of the key
  pub found : (key : Key) (at : ℕ) → at < length rows
      → ((row : Key × Key) → by_key (get_or rows at row).0 key ≡ Equal) → IsRow rows key at
  found key at within equal =
      record { within = within; is = λ row. exact_keys (get_or rows at row).0 key (equal row) }

  -- where it ends between rows, there is none
  pub missed : (key : Key) (at : ℕ) → IsPartitionPoint (λ row. by_key row.0 key ≡ Less) (λ row. by_key row.0 key ≡ Greater) rows at → groups_by rows key ≡ None
  missed key at parts =
      lookup_at_gap by_key_total key rows at rising
      (λ j row lt there. turned row.0 ∙ ap (λ (e : Key × Key). ordering_reverse (by_key e.0 key)) (sym (get_or_from_slice_get rows j row row there)) ∙ ap ordering_reverse (parts.0 j row (omega arith) lt))
      (λ row there. turned row.0 ∙ ap (λ (e : Key × Key). ordering_reverse (by_key e.0 key)) (sym (get_or_from_slice_get rows at row row there)) ∙ ap ordering_reverse (parts.1 at row (omega arith) (slice_get_within rows at row there)))
    where
      turned : (other : Key) → by_key key other ≡ ordering_reverse (by_key other key)
      turned other = by_key_total.antisymm key other
