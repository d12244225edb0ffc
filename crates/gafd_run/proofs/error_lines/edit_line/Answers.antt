use Rattle.std.proofs.Common.{rules, append_assoc}
use Rattle.gafd_run.proofs.error_lines.edit_line.Goals as goal

pub returns : goal.returns
returns c = search (rules, append_assoc)
