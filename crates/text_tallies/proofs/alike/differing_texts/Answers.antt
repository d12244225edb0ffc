use Rattle.std.proofs.Common.{map}
use Rattle.text_tallies.proofs.AlikeLemmas.{alike_from_none}
use Rattle.text_tallies.proofs.alike.differing_texts.Goals as goal

pub loop-name-init : goal.loop-name-init
loop-name-init c = λ q.
    rw (c.new-firsts.ensures.empty, c.new-differ.ensures.empty) (alike_from_none q (map (λ n. n.now) c.args.names.now))
