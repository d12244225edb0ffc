use Rattle.std.proofs.Common.{subst, sym}
use Rattle.flat_sheets.specs.Conductors.{conductors_of}
use Rattle.net_names.specs.NetLaws.{NamesDiffer}
use Rattle.net_names.proofs.NameLaws.{names_differ}
use Rattle.net_names.proofs.laws.names_differ.Goals as goal

pub returns : goal.returns
returns c = λ p list is.
    let made = is.nets in
    subst NamesDiffer (sym made.2) (names_differ (conductors_of p) made.0 made.1 is.countable)
