use Rattle.engine_core.proofs.Elapsing.{nothing_elapses}
use Rattle.memory_engine.proofs.Elapsing.{one_more_elapses}
use Rattle.memory_engine.proofs.world.MemoryWorld.elapse.Goals as goal

pub loop-event-init : goal.loop-event-init
loop-event-init c = nothing_elapses _

pub loop-event-preserved : goal.loop-event-preserved
loop-event-preserved c = one_more_elapses c.in-Some.event _ _ _ c.loop-event.invariant c.in_ok-happen.ensures.ok
