use Rattle.std.proofs.Common.{rules, subst}
use Rattle.std.specs.Fn.{FnOnceReturnsAt}
use Rattle.hall_core.specs.BoardSteps.{IsAnswered}
use Rattle.hall_core.proofs.LookLemmas.{look_answered}
use Rattle.hall_core.proofs.seat.Seat.look_from.Goals as goal

pub returns-clause-answered : goal.returns-clause-answered
returns-clause-answered g c =
    look_answered g.S.ShowsBoard.list c.args.least _ _ (λ answer board. FnOnceReturnsAt g.F.FnOnce c.args.f board answer)
    (λ answer shown called.
    let told : IsAnswered (g.S.ShowsBoard.list called.0.now) (λ board. FnOnceReturnsAt g.F.FnOnce c.args.f board answer) = search rules in
    subst (λ s. IsAnswered (g.S.ShowsBoard.list s) (λ board. FnOnceReturnsAt g.F.FnOnce c.args.f board answer)) called.2 told)
    c.look_whole.result c.look_whole.ensures.answered
