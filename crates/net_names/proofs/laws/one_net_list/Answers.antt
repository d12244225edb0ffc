use Rattle.net_names.proofs.Uniqueness.{same_lists}
use Rattle.net_names.proofs.laws.one_net_list.Goals as goal

pub returns : goal.returns
returns c = same_lists
