use Rattle.std.proofs.Common.{rules}
use Rattle.pin_matrix.proofs.Documents.{count-members}
use Rattle.pin_matrix.proofs.reading.has_one_key.Goals as goal

pub returns : goal.returns
returns c = search (rules, count-members)
