use Rattle.net_names.specs.steps.Orders.{by_bytes_total, by_least_pin_total, by_member_total, by_name_total}
use Rattle.geda_defs.proofs.OnceLaws.{is_once_in_order}
use Rattle.net_names.proofs.laws.each_stands_once.Goals as goal

pub returns-clause-members : goal.returns-clause-members
returns-clause-members c = is_once_in_order by_member_total

pub returns-clause-classes : goal.returns-clause-classes
returns-clause-classes c = is_once_in_order by_least_pin_total

pub returns-clause-refdeses : goal.returns-clause-refdeses
returns-clause-refdeses c = is_once_in_order by_bytes_total

pub returns-clause-names : goal.returns-clause-names
returns-clause-names c = is_once_in_order by_name_total
