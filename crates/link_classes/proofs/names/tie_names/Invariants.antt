use Rattle.std.proofs.Common.{◌++◌, ℕ, List, take}
use Rattle.std.specs.HashMap.{get_by_text}
use Rattle.flat_rows.specs.Keyed.{Keyed}
use Rattle.link_classes.specs.steps.FirstPlaces.{TiesKeys}
use Rattle.link_classes.proofs.names.tie_names.Given as goal

abbrev pub invariant-loop-row : goal.invariant-loop-row
invariant-loop-row l = (keyed : List (Keyed (List ℕ))) → TiesKeys (get_by_text l.fn.first) l.fn.pairs.items keyed
    → TiesKeys (get_by_text l.first) l.pairs.items (keyed ++ take l.row-index l.names)
