use Rattle.std.proofs.Common.{Contains, List, subst, refl}
use Rattle.geda_geom.specs.declared.conductor.Key.{Key}
use Rattle.net_flood.specs.declared.search.Search.{Search}
use Rattle.net_flood.specs.steps.Search.{Moves}
use Rattle.net_flood.proofs.SearchLemmas.{absorbs, is_found}
use Rattle.net_flood.proofs.search.absorb.Goals as goal

pub put_under-requires : goal.put_under-requires
put_under-requires c = record {
  there = λ q h. is_found c.args.found.now.entries c.args.small.start q
      ((c.requires.small q).0 (subst (λ ks. Contains ks q) c.deref.ensures.value h));
}

pub returns-clause-absorbs : goal.returns-clause-absorbs
returns-clause-absorbs c =
    let last : Search = record { start = c.args.large.start; row = c.append.new.self; waiting = c.append-2.new.self } in
    let moves = subst (λ (ks : List Key). Moves c.args.large.start ks c.args.found.now.entries c.put_under.new.found.entries) c.deref.ensures.value c.in_ok-put_under.ensures.moves in
    absorbs c.args.large c.args.small last c.args.found.now.entries c.put_under.new.found.entries c.requires.apart c.requires.large c.requires.small moves refl
    c.in_ok-append.ensures.items c.in_ok-append-2.ensures.items
