use Rattle.std.proofs.Common.{rules}
use Rattle.text_tallies.proofs.AlikeLemmas.{adds_if}
use Rattle.text_tallies.proofs.alike.add_if.Goals as goal

pub returns-in_ok-insert : goal.returns-in_ok-insert
returns-in_ok-insert c = adds_if c.args.is_other c.args.printed c.args.differ.now c.insert.new.self (search rules) c.in_ok-insert.ensures.updates
