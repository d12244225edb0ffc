use Rattle.std.proofs.Common.{ℕ, ◌<◌}
use Rattle.desk_entries.specs.steps.Ranges.{IsInRange}
use Rattle.desk_entries.proofs.laws.tell_ranges.Given as goal

abbrev pub invariant-loop-id : goal.invariant-loop-id
invariant-loop-id l = (i : ℕ) → i < l.id → IsInRange l.project.contents i
