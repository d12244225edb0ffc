use Rattle.std.proofs.Common.{◌≤◌, length, refl, arith}
use Rattle.net_flood.specs.declared.search.Search.{Search}
use Rattle.net_flood.proofs.SearchLemmas.{grows_set, puts_looks}
use Rattle.net_flood.proofs.search.put.Goals as goal

pub returns-in_err-push-clause-grows : goal.returns-in_err-push-clause-grows
returns-in_err-push-clause-grows c =
    let more : length c.args.found.now.entries ≤ length c.insert.new.self.entries = omega (arith, c.in_ok-insert.ensures.len) in
    grows_set c.args.found.now.entries c.insert.new.self.entries c.args.key c.args.search.now.start c.in_ok-insert.ensures.updates.0 c.insert.ensures.unique more

pub returns-in_err-push_back-clause-grows : goal.returns-in_err-push_back-clause-grows
returns-in_err-push_back-clause-grows c =
    let more : length c.args.found.now.entries ≤ length c.insert.new.self.entries = omega (arith, c.in_ok-insert.ensures.len) in
    grows_set c.args.found.now.entries c.insert.new.self.entries c.args.key c.args.search.now.start c.in_ok-insert.ensures.updates.0 c.insert.ensures.unique more

pub returns-clause-grows : goal.returns-clause-grows
returns-clause-grows c =
    let more : length c.args.found.now.entries ≤ length c.insert.new.self.entries = omega (arith, c.in_ok-insert.ensures.len) in
    grows_set c.args.found.now.entries c.insert.new.self.entries c.args.key c.args.search.now.start c.in_ok-insert.ensures.updates.0 c.insert.ensures.unique more

pub returns-clause-looks : goal.returns-clause-looks
returns-clause-looks c =
    let s = c.args.search.now in
    let t : Search = record { start = s.start; row = c.push.new.self; waiting = c.push_back.new.self } in
    puts_looks c.args.found.now.entries c.insert.new.self.entries c.args.key s.start c.in_ok-insert.ensures.updates.0 s t refl c.requires.is_new refl
    c.in_ok-push.ensures.items c.in_ok-push_back.ensures.items
