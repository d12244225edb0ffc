use Rattle.std.proofs.Common.{ap, sym, ◌∙◌, subst, true}
use mathlib.Core.List.{IsPrefix}
use Rattle.hall_core.proofs.Closing.{settles_cons}
use Rattle.hall_core.proofs.pen.+settle.Goals as goal

pub returns-then-held-clause-settles : goal.returns-then-held-clause-settles
returns-then-held-clause-settles g t c =
    let first = c.in-Some.ensures.cases.0 in
    let view = c.seat.view_is in
    let seen = ap (λ d. d.seen) view ∙ c.is_held-held.ensures.same.0 in
    let losses = ap (λ d. d.losses) view ∙ c.is_held-held.ensures.same.1 in
    let this = subst (λ l. IsPrefix l c.args.listed.now) (sym (ap (λ d. d.seen) view)) c.if-held.ensures.held in
    rw first (settles_cons c.args.listed.now c.in-Some.seat.now _ c.in-Some.rest.now c.settle-others.new.seats true c.settle-others.result seen losses this c.settle-others.ensures.settles)
