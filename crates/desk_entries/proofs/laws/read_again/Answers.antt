use Rattle.std.proofs.Common.{subst}
use Rattle.desk_entries.specs.steps.Ranges.{AreInRange}
use Rattle.desk_entries.proofs.TableLaws.{read_again}
use Rattle.desk_entries.proofs.laws.read_again.Goals as goal

pub returns : goal.returns
returns c = read_again c.args.desk.now.history (subst AreInRange c.project.ensures.contents c.tell_ranges.ensures)
