use Rattle.engine_owners.proofs.PairLemmas.{finds_all, new_found}
use Rattle.engine_owners.proofs.laws.taken_law.Goals as goal

pub returns-clause-all : goal.returns-clause-all
returns-clause-all c = finds_all

pub returns-clause-found : goal.returns-clause-found
returns-clause-found c = new_found
