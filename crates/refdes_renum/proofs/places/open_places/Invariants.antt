use Rattle.std.proofs.Common.{◌≡◌, drop, fold, map}
use Rattle.std.specs.BTreeSet.{insert_key}
use Rattle.std.specs.List.{filter_map}
use Rattle.geda_defs.specs.Order.{once_in_order}
use Rattle.project_model.specs.Tables.{row_now}
use Rattle.refdes_renum.specs.Renumbering.{by_place, open_place}
use Rattle.refdes_renum.proofs.places.open_places.Given as goal

abbrev pub invariant-loop-row : goal.invariant-loop-row
invariant-loop-row l =
    fold (insert_key by_place) l.places.keys (filter_map (open_place l.project.contents) (map row_now (drop l.row-index l.rows)))
    ≡ once_in_order by_place (filter_map (open_place l.project.contents) (map row_now l.rows))
