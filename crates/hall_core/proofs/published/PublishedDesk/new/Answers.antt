use Rattle.std.proofs.Common.{ap, subst, ◌∙◌}
use Rattle.hall_log.specs.Histories.{IsHistory}
use Rattle.hall_core.proofs.Showing.{shown_at_first}
use Rattle.hall_core.proofs.published.PublishedDesk.new.Goals as goal

pub invariant_of-result : goal.invariant_of-result
invariant_of-result g c =
    let w = c.in-Ok.ensures in
    rw c.in_ok-desk.ensures (shown_at_first c.args.desk.history c.args.log.1 _ _ (subst IsHistory c.requires.listed c.len-history.ensures.history) c.requires.listed (ap g.S.ShowsBoard.list w.0 ∙ c.requires.shown.0) w.1)
