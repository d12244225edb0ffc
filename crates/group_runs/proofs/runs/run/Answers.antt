use Rattle.group_runs.specs.Runs.{sheets_in}
use Rattle.group_runs.proofs.RunLemmas.{are_kept}
use Rattle.group_runs.proofs.runs.run.Goals as goal

pub insert_all-requires-clause-kept : goal.insert_all-requires-clause-kept
insert_all-requires-clause-kept c = are_kept c.args.rows.now.entries c.remove_all.new.rows.entries c.in_ok-sum.ensures.kept (sheets_in c.args.coming.now) c.requires.coming_kept
