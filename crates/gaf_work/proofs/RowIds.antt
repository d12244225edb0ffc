-- The ids of a project's objects.
use Rattle.std.proofs.Common.{◌≡◌, ℕ, ◌<◌, ◌%◌, List, [], ◌∷◌, map, length, Some, IsSome, Bor, refl, sym, ap, subst, ◌∙◌}
use Rattle.std.specs.List.{Contains}
use Rattle.std.specs.FinMap.{FinMap, entries, get, keys, get-entries}
use Rattle.std.specs.Ordering.{nat_cmp}
use Rattle.std.proofs.lemmas.List.Elements.{Contains-get_or}
use Rattle.std.proofs.lemmas.Map.Views.{IsSome-lookup_from_Contains}
use Rattle.std.proofs.lemmas.Option.{slice_get_within, get_or_from_slice_get}
use Rattle.project_model.specs.Tables.{row_now}
use Rattle.project_model.proofs.Rows.{find_row, ids, key_equal}
use Rattle.gaf_work.specs.DrawnSteps.{id_at}

module _ {V : Type 0} where
  first_halves : (rows : List (ℕ × Bor V)) → map (λ row. row.0) (map row_now rows) ≡ map (λ row. row.0) rows
  first_halves [] = refl
  first_halves (row ∷ rows) = ap (◌∷◌ row.0) (first_halves rows)

  -- the first halves of the rows by id
  pub keys_from_rows : (m : FinMap nat_cmp V) (rows : List (ℕ × Bor V)) → map row_now rows ≡ entries m → map (λ row. row.0) rows ≡ keys m
  keys_from_rows m rows e = sym (first_halves rows) ∙ ap (map (λ (row : ℕ × V). row.0)) e

  key_has_row : (m : FinMap nat_cmp V) (id : ℕ) → Contains (keys m) id → IsSome (get m id)
  key_has_row m id h = subst IsSome (sym (get-entries m id ∙ find_row ids (entries m) id)) (IsSome-lookup_from_Contains (key_equal ids) id (entries m) h)

  -- an id that is taken away has a row
  pub id_has_row : (m : FinMap nat_cmp V) (q id : ℕ) → id_at (keys m) q ≡ Some id → IsSome (get m id)
  id_has_row m q id e =
      let place = q % length (keys m) in
      let within : place < length (keys m) = slice_get_within (keys m) place id e in
      key_has_row m id (subst (Contains (keys m)) (get_or_from_slice_get (keys m) place id 0 e) (Contains-get_or (keys m) place 0 within))
