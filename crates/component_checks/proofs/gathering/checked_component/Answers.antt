use Rattle.std.proofs.Common.{sym}
use Rattle.component_checks.proofs.gathering.checked_component.Goals as goal

pub returns-in-Some-clause-made : goal.returns-in-Some-clause-made
returns-in-Some-clause-made c =
    let made = rw c.in-Some.is at c.in_ok-known.ensures in
    sym made
