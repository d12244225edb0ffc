use Rattle.refdes_renum.proofs.LawLemmas.{can_apply, distinct}
use Rattle.refdes_renum.proofs.laws.renumbered_distinct.Goals as goal

pub returns-clause-distinct : goal.returns-clause-distinct
returns-clause-distinct c = distinct

pub returns-clause-can_apply : goal.returns-clause-can_apply
returns-clause-can_apply c = can_apply
