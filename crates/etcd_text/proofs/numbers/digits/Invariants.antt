use Rattle.std.proofs.Common.{◌≡◌, length}
use Rattle.etcd_text.specs.Numbers.{digits_from}
use Rattle.etcd_text.proofs.numbers.digits.Given as goal

abbrev pub invariant-loop-rest : goal.invariant-loop-rest
invariant-loop-rest l = digits_from l.value l.rest ≡ digits_from 0 l.bytes

abbrev pub decreases-loop-rest : goal.decreases-loop-rest
decreases-loop-rest l = length l.rest
