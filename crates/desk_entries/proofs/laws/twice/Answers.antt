use Rattle.std.proofs.Common.{subst}
use Rattle.attr_table.specs.Records.{records_of}
use Rattle.desk_entries.specs.steps.Ranges.{AreInRange}
use Rattle.desk_entries.proofs.TableLaws.{acts_once}
use Rattle.desk_entries.proofs.laws.twice.Goals as goal

pub returns : goal.returns
returns c =
    acts_once c.args.desk.now.history c.args.sheet.now c.args.session.now (records_of c.args.table.now) c.args.first c.front.ensures.legal
    (subst AreInRange c.project.ensures.contents c.tell_ranges.ensures)
