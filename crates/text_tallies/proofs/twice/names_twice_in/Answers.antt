use Rattle.std.proofs.Common.{arith}
use Rattle.std.specs.Str.{bytes_eq}
use Rattle.text_tallies.proofs.KeyLemmas.{drop_next}
use Rattle.text_tallies.proofs.PairLemmas.{twice_from_none}
use Rattle.text_tallies.proofs.twice.names_twice_in.Goals as goal

pub loop-name-init : goal.loop-name-init
loop-name-init c = λ q.
    rw (c.in_ok-seen.ensures.empty, c.new-twice.ensures.empty) (twice_from_none (bytes_eq q) c.args.names.now)

pub loop-name-preserved : goal.loop-name-preserved
loop-name-preserved c =
    let more = drop_next c.args.names.now c.loop-name.name-index c.name-item.result (omega arith) c.name-item.is in
    λ q.
    let held = rw more at c.loop-name.invariant q in
    rw (c.in_ok-take_name.ensures.seen q, c.in_ok-take_name.ensures.twice q) held
