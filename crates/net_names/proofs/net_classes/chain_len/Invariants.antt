use Rattle.std.proofs.Common.{◌-◌, length}
use Rattle.net_names.proofs.net_classes.chain_len.Given as goal

abbrev pub decreases-loop-at : goal.decreases-loop-at
decreases-loop-at l = length l.nexts - l.at
