use Rattle.std.proofs.Common.{◌≡◌, Some, arith, rules}
use Rattle.hall_core.proofs.Closing.{closed_pen, closes_of}
use Rattle.hall_core.proofs.pen.Pen.close.Goals as goal

pub invariant_of-self : goal.invariant_of-self
invariant_of-self g c = closed_pen g.K.Keeper.rows g.K.Keeper.faults c.close.new.self.keeper c.self.inside.desk.history c.settle-held.new.total.total c.close.ensures.none

pub returns : goal.returns
returns g c =
    let keys = c.into_share-all.ensures in
    let there : c.self.inside.edit_log.keeper ≡ Some c.close.result = search rules in
    closes_of g.K.Keeper.rows g.K.Keeper.faults c.self.inside.edit_log.keeper c.close.result c.listed.result.now c.self.inside.desk.history c.settle-held.result c.args.seats.now c.settle-held.new.seats _
    c.self.inside.losses.total there c.self.invariant.kept c.front-history.ensures.history.legal c.listed.ensures.begins c.settle-held.ensures.settles c.self.invariant.bound
    (λ all. let sums = c.settle-held.ensures.losses (omega (arith, all, keys.most, c.requires)) in omega (arith, sums, keys.nothing))
