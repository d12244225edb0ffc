use Rattle.std.proofs.Common.{◌≡◌, map, rules}
use Rattle.std.proofs.lemmas.List.Sorted.{IsNonDecreasingBy-from_sort_by_key}
use Rattle.project_model.specs.Tables.{row_now}
use Rattle.project_model.proofs.SortedLists.{rows_sorted_by_id}
use Rattle.project_model.proofs.ordered.rows_in.Goals as goal

pub returns : goal.returns
returns g c =
    let found : map row_now c.loop-id.found.items ≡ c.args.rows.now.entries = search rules in
    rows_sorted_by_id _ _ _ c.len.ensures.unique found c.sort_unstable_by_key.ensures.permutation
    (IsNonDecreasingBy-from_sort_by_key (λ row. row.0) _ c.sort_unstable_by_key.ensures.sorted (λ a r q k. search rules))
