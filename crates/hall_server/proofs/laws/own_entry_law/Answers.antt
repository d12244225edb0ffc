use Rattle.hall_server.proofs.OwnEntries.{own_entry}
use Rattle.hall_server.proofs.laws.own_entry_law.Goals as goal

pub returns : goal.returns
returns c = own_entry
