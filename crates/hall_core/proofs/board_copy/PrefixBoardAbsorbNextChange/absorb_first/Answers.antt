use Rattle.std.proofs.Common.{◌≡◌, ◌∙◌, rules}
use Rattle.project_model.specs.Changes.{put}
use Rattle.hall_core.proofs.HistoryLemmas.{next_can, step_project}
use Rattle.hall_core.proofs.board_copy.PrefixBoardAbsorbNextChange.absorb_first.Goals as goal

pub apply-requires : goal.apply-requires
apply-requires g c = next_can _ _ _ c.operation.invariant c.len-history.ensures.history

pub invariant_of-self-2 : goal.invariant_of-self-2
invariant_of-self-2 g c =
    let ok : c.apply.new.self.project ≡ put c.self.inside.board.project c.operation.inside.change.items = search rules in
    rw c.again.ensures
    (ok
    ∙ step_project c.self.inside.board.project c.self.inside.prefix c.operation.inside.before c.operation.inside.after c.operation.inside.change.items c.self.invariant (search rules) (search rules)
    c.operation.invariant)
