use Rattle.std.proofs.Common.{arith}
use Rattle.sheet_groups.proofs.ScanLemmas.{none_before, scanned}
use Rattle.sheet_groups.proofs.scans.scanned_pairs.Goals as goal

pub loop-first-init : goal.loop-first-init
loop-first-init c = rw c.new-pairs.ensures.items (none_before c.args.conductors.now)

pub returns : goal.returns
returns c = scanned c.args.conductors.now c.loop-first.first c.loop-first.pairs.items (omega arith) c.loop-first.invariant
