use Rattle.std.proofs.Common.{rules, append_assoc}
use Rattle.edit_cases.proofs.attributes.attr_line.Goals as goal

pub returns : goal.returns
returns c = search (rules, append_assoc)
