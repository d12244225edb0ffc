use Rattle.std.proofs.Common.{◌+◌, ◌<◌, ◌≤◌, ◌^◌, ℕ, List, drop, length}
use Rattle.std.specs.String.{string_bytes}
use Rattle.flat_rows.specs.Conductors.{FlatConductor}
use Rattle.net_names.specs.steps.Classes.{IsGathered, bodies_of}
use Rattle.net_names.specs.steps.Numbering.{GoesOn, IsStemBefore, TakeSame}
use Rattle.net_names.proofs.numbering.number_classes.Given as goal

abbrev pub invariant-loop-at : goal.invariant-loop-at
invariant-loop-at l = record {
  stem : IsStemBefore l.prefix l.next (string_bytes l.stem);
  small : 1 + length l.fn.taken.keys + length l.classes.met.items < 2 ^ 64;
  count : l.next + length l.taken.keys ≤ 1 + length l.fn.taken.keys + l.at;
  same : TakeSame l.prefix l.fn.taken.keys l.taken.keys l.next;
  rest : (conductors : List FlatConductor) (labels : List ℕ) → IsGathered conductors labels l.classes
      → GoesOn l.prefix l.sort l.fn.taken.keys (length l.taken.keys) l.next l.fn.nets.items l.nets.items
      (bodies_of conductors labels l.sort l.classes.met.items) (bodies_of conductors labels l.sort (drop l.at l.classes.met.items));
}
