use Rattle.std.proofs.Common.{refl}
use Rattle.net_flood.specs.declared.search.Search.{Search}
use Rattle.net_flood.proofs.SearchLemmas.{begins_search}
use Rattle.net_flood.proofs.search.begin.Goals as goal

pub returns-clause-begins : goal.returns-clause-begins
returns-clause-begins c =
    let s : Search = record { start = c.args.start; row = c.new.result; waiting = c.new-2.result } in
    begins_search c.args.start s c.put.new.search c.args.found.now.entries c.put.new.found.entries refl c.new.ensures.items c.new-2.ensures.items c.in_ok-put.ensures.looks
