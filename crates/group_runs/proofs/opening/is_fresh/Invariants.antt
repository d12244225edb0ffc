use Rattle.std.proofs.Common.{◌≡◌, filter}
use Rattle.group_runs.specs.Sheets.{given_up, is_given_up, row_at}
use Rattle.group_runs.proofs.opening.is_fresh.Given as goal

abbrev pub invariant-loop-sheet : goal.invariant-loop-sheet
invariant-loop-sheet l = filter (λ s. is_given_up (row_at l.rows.entries s)) l.sheet-iterator ≡ given_up l.rows.entries
