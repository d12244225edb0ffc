use Rattle.std.proofs.Common.{◌≡◌, ◌++◌, ◌+◌, ◌≤◌, length, decimal}
use Rattle.std.specs.String.{string_bytes}
use Rattle.net_names.specs.steps.Numbering.{AllTaken, IsStemBefore, TakeSame}
use Rattle.net_names.proofs.numbering.free_name.Given as goal

abbrev pub invariant-loop-alloc : goal.invariant-loop-alloc
invariant-loop-alloc l = record {
  stem : IsStemBefore l.prefix (l.number + 1) (string_bytes l.stem);
  name : l.name ≡ l.prefix ++ decimal l.number;
  above : l.from ≤ l.number;
  skipped : AllTaken l.prefix l.fn.taken.keys l.from l.number;
  same : TakeSame l.prefix l.fn.taken.keys l.taken.keys l.number;
  fewer : l.number + length l.taken.keys ≤ l.from + length l.fn.taken.keys;
}

abbrev pub decreases-loop-alloc : goal.decreases-loop-alloc
decreases-loop-alloc l = length l.taken.keys
