use Rattle.std.proofs.Common.{◌≡◌, ◌++◌, drop}
use Rattle.std.specs.List.{flat_map}
use Rattle.backends.specs.steps.CsvWriters.{IsReady, written}
use Rattle.backends.specs.steps.Groups.{group_record, group_seen}
use Rattle.backends.proofs.bill_text.put_groups.Given as goal

abbrev pub invariant-loop-group : goal.invariant-loop-group
invariant-loop-group l = IsReady l.writer × (written l.writer ++ flat_map (λ g. group_record (group_seen g)) (drop l.group-index l.groups) ≡ written l.fn.writer ++ flat_map (λ g. group_record (group_seen g)) l.groups)
