use Rattle.std.proofs.Common.{arith}
use Rattle.sheet_groups.proofs.ScanLemmas.{all_here, none_here}
use Rattle.sheet_groups.proofs.scans.add_pairs_of.Goals as goal

pub loop-second-init : goal.loop-second-init
loop-second-init c = λ before. none_here c.args.conductors.now c.args.first c.args.pairs.now.items before

pub loop-second-preserved : goal.loop-second-preserved
loop-second-preserved c = λ before. c.in_ok-add_if_touching.ensures (c.loop-second.invariant before)

pub returns : goal.returns
returns c = λ before. all_here c.args.conductors.now c.args.first c.loop-second.second c.loop-second.pairs.items (omega arith) (c.loop-second.invariant before)
