use Rattle.std.proofs.Common.{refl, sym, ◌∙◌}
use Rattle.net_flood.specs.declared.partition.Partition.{Partition}
use Rattle.net_flood.specs.steps.Partition.{Has, members_of}
use Rattle.net_flood.proofs.Outcomes.{on_ok}
use Rattle.net_flood.proofs.PartitionLemmas.{list_puts, set_partition, set_puts}
use Rattle.net_flood.proofs.partition.Partition.put_set.Goals as goal

pub returns-then-contains-clause-partition : goal.returns-then-contains-clause-partition
returns-then-contains-clause-partition c =
    let new : Partition = record { heads = c.args.self.now.heads; rows = c.insert.new.self } in
    let has : Has c.args.keys c.args.head = sym c.contains.ensures ∙ c.if-contains.true in
    set_partition c.args.keys c.args.self.now c.requires.partition c.requires.free c.args.head has c.requires.alike new refl c.in_ok-insert.ensures.updates.0

pub returns-then-contains-clause-puts : goal.returns-then-contains-clause-puts
returns-then-contains-clause-puts c =
    let new : Partition = record { heads = c.args.self.now.heads; rows = c.insert.new.self } in
    let has : Has c.args.keys c.args.head = sym c.contains.ensures ∙ c.if-contains.true in
    set_puts c.args.keys c.args.self.now c.requires.partition c.requires.free c.args.head has c.requires.alike new refl c.in_ok-insert.ensures.updates.0

pub returns-clause-puts : goal.returns-clause-puts
returns-clause-puts c =
    on_ok c.put_all.result (list_puts c.args.keys c.args.self.now c.requires.partition c.requires.free c.args.any c.requires.any c.deref.result.now
    (c.deref.ensures.value ∙ c.in_ok-list.ensures.same) c.put.new.self c.in_ok-put.ensures.puts (members_of c.put_all.new.self)) c.put_all.ensures.adds
