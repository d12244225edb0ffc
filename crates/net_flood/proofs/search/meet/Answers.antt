use Rattle.std.proofs.Common.{refl}
use Rattle.std.proofs.lemmas.Result.{IfOk-weaker}
use Rattle.net_flood.specs.declared.search.Search.{Search}
use Rattle.net_flood.proofs.SearchLemmas.{meets_first, meets_second}
use Rattle.net_flood.proofs.search.meet.Goals as goal

pub returns-then-len-clause-meets : goal.returns-then-len-clause-meets
returns-then-len-clause-meets c =
    let first = c.args.first in
    let second = c.args.second in
    let large : Search = record { start = second.start; row = second.row; waiting = first.waiting } in
    let small : Search = record { start = first.start; row = first.row; waiting = second.waiting } in
    IfOk-weaker c.absorb.result _ _ (λ last absorbed. meets_second first second large small last c.args.found.now.entries c.absorb.new.found.entries refl refl refl refl absorbed) c.absorb.ensures.absorbs

pub returns-clause-meets : goal.returns-clause-meets
returns-clause-meets c =
    IfOk-weaker c.absorb-2.result _ _ (λ last absorbed. meets_first c.args.first c.args.second last c.args.found.now.entries c.absorb-2.new.found.entries absorbed) c.absorb-2.ensures.absorbs
