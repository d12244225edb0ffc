use Rattle.std.proofs.Common.{◌≤◌, length, arith}
use Rattle.geda_geom.specs.declared.conductor.Key.{Key}
use Rattle.net_flood.proofs.SearchLemmas.{moving_begins, moving_more}
use Rattle.net_flood.proofs.search.put_under.Goals as goal

pub loop-key-init : goal.loop-key-init
loop-key-init c = moving_begins c.args.head c.args.found.now.entries

pub loop-key-preserved : goal.loop-key-preserved
loop-key-preserved c =
    let d : Key = record { id = 0; place = 0 } in
    let more : length c.loop-key.found.entries ≤ length c.insert.new.self.entries = omega (arith, c.in_ok-insert.ensures.len) in
    moving_more c.args.keys.now c.loop-key.key-index d c.args.head c.args.found.now.entries c.loop-key.found.entries c.insert.new.self.entries c.loop-key-test.true c.requires.there c.loop-key.invariant
    c.in_ok-insert.ensures.updates.0 c.insert.ensures.unique more
