use Rattle.std.proofs.Common.{◌≡◌, drop, fold}
use Rattle.std.specs.BTreeSet.{insert_key}
use Rattle.std.specs.List.{filter_map}
use Rattle.geda_defs.specs.Order.{by_bytes, once_in_order}
use Rattle.renum_files.specs.RenumberedFiles.{sheet_of_item}
use Rattle.renum_files.proofs.changed_sheets.changed_sheets.Given as goal

abbrev pub invariant-loop-item : goal.invariant-loop-item
invariant-loop-item l =
    fold (insert_key by_bytes) l.names.keys (filter_map sheet_of_item (drop l.item-index l.items))
    ≡ once_in_order by_bytes (filter_map sheet_of_item l.items)
