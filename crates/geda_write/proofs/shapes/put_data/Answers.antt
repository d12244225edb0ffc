use Rattle.std.proofs.Common.{rules, append_assoc}
use Rattle.geda_write.proofs.Outputs.{more_nothing, more_more}
use Rattle.geda_write.proofs.shapes.put_data.Goals as goal

pub returns-in-None : goal.returns-in-None
returns-in-None g c = search (rules, more_nothing)

pub returns-in_ok-piece-in-Some : goal.returns-in_ok-piece-in-Some
returns-in_ok-piece-in-Some g c = search (rules, append_assoc, more_more)
