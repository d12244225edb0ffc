use Rattle.std.proofs.Common.{◌≡◌, ◌<◌, ◌++◌, ◌∷◌, [], ap, sym, ◌∙◌, arith}
use Rattle.hall_log.proofs.HistoryLemmas.{follows_at, take_one_more}
use Rattle.hall_core.proofs.hall.list_all.Goals as goal

pub add-requires-clause-accepted : goal.add-requires-clause-accepted
add-requires-clause-accepted g c =
    rw c.loop-serial.invariant.0 (follows_at c.args.desk.now.history c.loop-serial.serial c.in-Some.entry.now c.front-front.ensures.legal (sym c.in-Some.ensures))

pub loop-serial-preserved : goal.loop-serial-preserved
loop-serial-preserved g c =
    let i = c.loop-serial.invariant in
    let grown : c.add.new.self ≡ c.loop-serial.listed ++ c.in-Some.entry.now ∷ [] = c.if-not-add.ensures in
    let within : c.loop-serial.serial < c.front-front.result = c.loop-serial-test.true in (
      grown ∙ (ap (λ l. l ++ c.in-Some.entry.now ∷ []) i.0 ∙ sym (take_one_more c.args.desk.now.history c.loop-serial.serial c.in-Some.entry.now (sym c.in-Some.ensures))),
      omega (arith, within, c.front-front.ensures.length),
    )
