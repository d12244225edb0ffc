use Rattle.std.proofs.Common.{rules, append_assoc}
use Rattle.work_run.proofs.GroupRows.{length-rows}
use Rattle.work_run.proofs.run_text.told.Goals as goal

pub returns : goal.returns
returns c =
    let rows = length-rows _ c.args.groups.now c.requires in
    search (rules, append_assoc)
