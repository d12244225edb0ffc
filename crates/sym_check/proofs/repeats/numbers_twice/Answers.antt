use Rattle.sym_check.specs.Findings.{pin_numbers_of}
use Rattle.sym_check.proofs.TextLemmas.{twice_of_keys}
use Rattle.sym_check.proofs.repeats.numbers_twice.Goals as goal

pub returns : goal.returns
returns c = twice_of_keys (pin_numbers_of c.args.pins.now) c.in_ok-keys.keys.items c.in_ok-twice.twice c.in_ok-keys.ensures c.in_ok-twice.ensures
