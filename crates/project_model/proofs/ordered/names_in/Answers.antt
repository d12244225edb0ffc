use Rattle.std.proofs.Common.{◌≡◌, rules}
use Rattle.std.specs.Map.{keys_of}
use Rattle.project_model.proofs.SortedLists.{names_sorted}
use Rattle.project_model.proofs.ordered.names_in.Goals as goal

pub returns : goal.returns
returns g c =
    let found : c.loop-name.names.items ≡ keys_of c.args.rows.now.entries = search rules in
    names_sorted _ _ _ c.len.ensures.unique found c.sort_unstable.ensures.permutation c.sort_unstable.ensures.sorted
