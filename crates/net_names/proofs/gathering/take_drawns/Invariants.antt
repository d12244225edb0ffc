use Rattle.std.proofs.Common.{◌≡◌, drop, length}
use Rattle.net_names.specs.steps.Gathering.{label_at, taken_in, with_drawn}
use Rattle.net_names.proofs.gathering.take_drawns.Given as goal

abbrev pub invariant-loop-at : goal.invariant-loop-at
invariant-loop-at l = record {
  len : length l.growing.items ≡ length l.fn.growing.items;
  rest : taken_in (label_at l.labels) with_drawn l.growing.items (drop l.at l.names) ≡ taken_in (label_at l.labels) with_drawn l.fn.growing.items l.names;
}
