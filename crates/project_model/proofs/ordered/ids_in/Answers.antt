use Rattle.std.proofs.Common.{◌≡◌, rules}
use Rattle.project_model.specs.steps.TableRows.{ids_in_rows}
use Rattle.project_model.proofs.SortedLists.{ids_sorted}
use Rattle.project_model.proofs.ordered.ids_in.Goals as goal

pub returns : goal.returns
returns c =
    let found : c.loop-id.ids.items ≡ ids_in_rows c.args.name.now c.args.rows.now.entries = search rules in
    ids_sorted _ _ _ _ c.len.ensures.unique found c.sort_unstable.ensures.permutation c.sort_unstable.ensures.sorted
