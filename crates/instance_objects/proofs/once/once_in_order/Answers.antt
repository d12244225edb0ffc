use Rattle.geda_defs.proofs.OnceLaws.{once_from_sort}
use Rattle.instance_objects.proofs.once.once_in_order.Goals as goal

pub returns : goal.returns
returns g c = once_from_sort g.met.T.Ord.total g.T.PartialEq.eq g.met.T.Ord.matches_eq c.args.items.items c.sort.new.self.items c.dedup.new.self.items c.in_ok-sort.ensures.sorted c.in_ok-sort.ensures.stable c.dedup.ensures.filtered
