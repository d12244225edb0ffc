use Rattle.std.proofs.Common.{◌≡◌, ℕ, List}
use Rattle.std.specs.List.{range_with_len}
use Rattle.flat_rows.specs.Conductors.{FlatConductor}
use Rattle.net_names.specs.steps.Classes.{IsGathered, named_of}
use Rattle.net_names.proofs.named.named_nets.Given as goal

abbrev pub invariant-loop-label : goal.invariant-loop-label
invariant-loop-label l = (conductors : List FlatConductor) (labels : List ℕ) → IsGathered conductors labels l.classes → l.named.items ≡ named_of conductors labels (range_with_len 0 l.label)
