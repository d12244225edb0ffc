use Rattle.std.proofs.Common.{List, Contains, subst}
use Rattle.geda_geom.specs.declared.conductor.Key.{Key}
use Rattle.touch_index.specs.steps.Sifting.{conductor_at}
use Rattle.touch_index.proofs.BesideLemmas.{apart_more, apart_past}
use Rattle.touch_index.proofs.neighbours.apart.Goals as goal
use Rattle.touch_index.proofs.neighbours.apart.Goals.{then-not-touches_one+in_ok-push, else-not-touches_one}

pub loop-key-preserved : goal.loop-key-preserved
loop-key-preserved c =
    let at = conductor_at c.args.conductors.now.entries in
    let d : Key = record { id = 0; place = 0 } in
    elim c.if-not-touches_one.branch [
      | then-not-touches_one+in_ok-push w ↦
          rw (w.left-is, w.in_ok-push.ensures.items)
          (apart_more at c.args.keys.now c.loop-key.key-index d c.loop-key-test.true c.loop-key.left.items c.loop-key.invariant)
      | else-not-touches_one w ↦
          rw w.left-is
          (apart_past at c.args.keys.now c.loop-key.key-index d c.loop-key-test.true c.loop-key.left.items c.loop-key.invariant
          (let by = c.touches_one.ensures w.if-not-touches_one.false in
          (by.0, subst (λ (ks : List Key). Contains ks by.0) c.deref.ensures.value (c.first_few.ensures by.0 by.1), by.2)))
    ]
