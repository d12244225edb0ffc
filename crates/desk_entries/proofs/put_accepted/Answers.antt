use Rattle.std.proofs.Common.{◌∙◌, List, ap}
use Rattle.edit_entries.specs.Entries.{EntryData}
use Rattle.edit_rules.specs.Verdicts.{verdict}
use Rattle.desk_entries.proofs.put_accepted.Goals as goal

pub commit-requires-clause-accepted : goal.commit-requires-clause-accepted
commit-requires-clause-accepted c =
    ap (λ (h : List EntryData). verdict h c.args.entry) c.reserve.ensures.same ∙ c.requires
