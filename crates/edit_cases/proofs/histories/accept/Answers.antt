use Rattle.std.proofs.Common.{◌≡◌, List, sym, subst}
use Rattle.edit_entries.specs.Entries.{EntryData}
use Rattle.edit_rules.specs.Verdicts.{verdict}
use Rattle.edit_rules.specs.declared.verdict.Verdict.TheVariants.{Accept}
use Rattle.edit_cases.proofs.histories.accept.Goals as goal

pub commit-serial-requires-clause-accepted : goal.commit-serial-requires-clause-accepted
commit-serial-requires-clause-accepted c =
    subst (λ (l : List EntryData). verdict l c.args.entry ≡ Accept c.args.change) (sym c.reserve.ensures.same) c.requires
