use Rattle.std.proofs.Common.{Ok, Err}
use Rattle.engine_core.specs.Calls.{OfTold, TellsOwner}
use Rattle.engine_core.specs.Worlds.{World}
use Rattle.engine_board.specs.Holding.{IsFresh}
use Rattle.engine_board.specs.Openings.{StaysFresh}
use Rattle.engine_board.specs.steps.Taking.{MayTake, Opened}
use Rattle.engine_board.proofs.CallLemmas.{of_told, told_if, told_then}
use Rattle.engine_board.proofs.OpeningLemmas.{HasRead, fresh_elapses, opened_after, reads_owner}
use Rattle.engine_board.proofs.opening.take_found.Goals as goal

pub take_under-requires : goal.take_under-requires
take_under-requires g c =
    let read : OfTold (HasRead c.in-Ok.owner) (g.E.Engine.world c.args.engine.now) (g.E.Engine.world c.owner.new.self) = of_told IsFresh (λ (w v : World). TellsOwner w v (Ok c.in-Ok.owner)) (HasRead c.in-Ok.owner) (reads_owner c.in-Ok.owner) (g.E.Engine.world c.args.engine.now) (g.E.Engine.world c.owner.new.self) c.requires.fresh c.in-Ok.ensures in
    record { may = told_if (HasRead c.in-Ok.owner) (λ (w : World). MayTake c.in-Ok.owner.fence w) (λ w v h. h.may) (g.E.Engine.world c.args.engine.now) (g.E.Engine.world c.owner.new.self) read }

pub returns-in-Ok : goal.returns-in-Ok
returns-in-Ok g c =
    let read : OfTold (HasRead c.in-Ok.owner) (g.E.Engine.world c.args.engine.now) (g.E.Engine.world c.owner.new.self) = of_told IsFresh (λ (w v : World). TellsOwner w v (Ok c.in-Ok.owner)) (HasRead c.in-Ok.owner) (reads_owner c.in-Ok.owner) (g.E.Engine.world c.args.engine.now) (g.E.Engine.world c.owner.new.self) c.requires.fresh c.in-Ok.ensures in
    told_then (HasRead c.in-Ok.owner) (λ (w v : World). Opened w v c.take_under.result) (λ (w v : World). Opened w v c.take_under.result) (opened_after c.in-Ok.owner c.take_under.result) (g.E.Engine.world c.args.engine.now) (g.E.Engine.world c.owner.new.self) (g.E.Engine.world c.take_under.new.engine) read c.take_under.ensures

pub returns-in-Err : goal.returns-in-Err
returns-in-Err g c = of_told IsFresh (λ (w v : World). TellsOwner w v (Err c.in-Err.fault)) StaysFresh (λ w v fresh tells. fresh_elapses w v fresh tells) (g.E.Engine.world c.args.engine.now) (g.E.Engine.world c.owner.new.self) c.requires.fresh c.in-Err.ensures
