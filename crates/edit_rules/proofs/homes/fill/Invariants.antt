use Rattle.std.proofs.Common.{◌-◌}
use Rattle.std.specs.Vec.{vec_len}
use Rattle.edit_rules.proofs.homes.fill.Given as goal

abbrev pub decreases-loop-alloc : goal.decreases-loop-alloc
decreases-loop-alloc l = l.count - vec_len l.rooms
