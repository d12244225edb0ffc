use Rattle.std.proofs.Common.{◌≡◌, drop, length}
use Rattle.net_names.specs.steps.Gathering.{keyed_rows, label_at, taken_in, with_row}
use Rattle.net_names.proofs.gathering.take_rows.Given as goal

abbrev pub invariant-loop-at : goal.invariant-loop-at
invariant-loop-at l = record {
  len : length l.growing.items ≡ length l.fn.growing.items;
  rest : taken_in (label_at l.labels) with_row l.growing.items (keyed_rows l.at (drop l.at l.rows)) ≡ taken_in (label_at l.labels) with_row l.fn.growing.items (keyed_rows 0 l.rows);
}
