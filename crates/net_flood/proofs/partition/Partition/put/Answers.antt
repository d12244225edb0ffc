use Rattle.net_flood.specs.declared.partition.Partition.{Partition}
use Rattle.net_flood.specs.steps.Partition.{heads_of, members_of}
use Rattle.net_flood.proofs.Outcomes.{on_ok}
use Rattle.net_flood.proofs.PartitionLemmas.{heads_set, keys_set, put_partition}
use Rattle.net_flood.proofs.partition.Partition.put.Goals as goal

pub returns-clause-keys : goal.returns-clause-keys
returns-clause-keys c =
    let new : Partition = record { heads = c.insert.new.self; rows = c.put_in_row.new.rows } in
    keys_set (heads_of c.args.self.now) (heads_of new) c.args.key c.args.head c.requires.there c.in_ok-insert.ensures.updates.0

pub returns-clause-puts : goal.returns-clause-puts
returns-clause-puts c =
    let new : Partition = record { heads = c.insert.new.self; rows = c.put_in_row.new.rows } in
    on_ok c.put_in_row.result (λ adds. record {
      partition = put_partition (heads_of c.args.self.now) (heads_of new) (members_of c.args.self.now) (members_of new) c.args.head c.args.key
          c.requires.partition c.requires.free c.requires.own adds c.in_ok-insert.ensures.updates.0;
      adds = adds;
      heads = heads_set (heads_of c.args.self.now) (heads_of new) c.args.key c.args.head c.in_ok-insert.ensures.updates.0;
    }) c.put_in_row.ensures
