use Rattle.std.proofs.Common.{sym}
use Rattle.sym_check.proofs.TextLemmas.{all_pins_by}
use Rattle.sym_check.proofs.on_pins.push_on_pins.Goals as goal

pub returns : goal.returns
returns c =
    rw (sym (all_pins_by c.args.pins.now c.in_ok-numbers.numbers c.in_ok-seqs.seqs c.in_ok-numbers.ensures c.in_ok-seqs.ensures))
    c.push_on_each.ensures
