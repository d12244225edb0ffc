use Rattle.net_flood.proofs.Outcomes.{on_ok}
use Rattle.net_flood.proofs.PartitionLemmas.{left_puts}
use Rattle.net_flood.proofs.partition.Partition.put_left.Goals as goal

pub returns-clause-puts : goal.returns-clause-puts
returns-clause-puts c = on_ok c.put_set.result (left_puts c.args.left c.args.self.now c.requires.partition c.requires.free c.put_set.new.self) c.put_set.ensures.puts
