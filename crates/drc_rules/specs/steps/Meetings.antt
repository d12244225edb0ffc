-- Steps of the code; no public clause cites them.
-- Members whose kinds may meet.
use Rattle.std.specs.Prelude.{Bool, true, ◌&&◌, List, [], ◌∷◌}
use Rattle.std.specs.List.{list_all}
use Rattle.net_list.specs.declared.member.Member.{Member}
use Rattle.pin_matrix.specs.declared.level.Level.{Level}
use Rattle.pin_matrix.specs.Matrices.{entry, is_correct}

-- the kinds of two members may meet
abbrev pub may_meet : List Level → Member → Member → Bool
may_meet matrix m other = is_correct (entry matrix m.kind other.kind)

-- those of each two members, not the same one, may
abbrev pub all_may_meet : List Level → List Member → Bool
all_may_meet matrix [] = true
all_may_meet matrix (m ∷ members) =
    list_all (may_meet matrix m) members && all_may_meet matrix members
