use Rattle.std.proofs.Common.{◌⊎◌, ◌≤◌, List, length, Contains, IsSome, get_or, rules, sym, subst, ◌∙◌, arith}
use Rattle.std.specs.FinMap.{get}
use Rattle.std.proofs.lemmas.List.{take_all}
use Rattle.std.proofs.lemmas.List.Elements.{Contains-get_or}
use Rattle.geda_geom.specs.declared.conductor.Key.{Key}
use Rattle.net_flood.specs.Grouping.{Conductors}
use Rattle.net_flood.specs.steps.Search.{AreLinked, Grows, IsPlaced, IsSearching, Races, Reaches, passing}
use Rattle.net_flood.proofs.SearchLemmas.{begun_reached, first_in, linked_begun, none_found, placed_begun, raced_reached, search_last, searching_begins, searching_ends, searching_more, searching_past, unique_none}
use Rattle.net_flood.proofs.search.search_from.Goals as goal
use Rattle.net_flood.proofs.search.search_from.Goals.{then-not-contains_key+in_ok-next+in_ok-last-2, else-not-contains_key}

pub returns-in_default-clause-unique : goal.returns-in_default-clause-unique
returns-in_default-clause-unique c = unique_none c.args.found.now.entries c.requires.none

pub returns-in_err-last-clause-unique : goal.returns-in_err-last-clause-unique
returns-in_err-last-clause-unique c = c.begin.ensures.grows.unique (unique_none c.args.found.now.entries c.requires.none)

pub loop-start-init : goal.loop-start-init
loop-start-init c =
    let here : Contains c.args.near.now c.in-Some.first.now = first_in c.args.near.now c.in-Some.first.now c.in-Some.ensures.value in (
      searching_begins (passing c.args.passed c.args.index.now.conductors) c.args.near.now c.args.index.now c.in-Some.first.now c.in_ok-last.last c.args.found.now.entries c.begin.new.found.entries c.requires.none
          here (c.requires.there c.in-Some.first.now here) (c.begin.ensures.grows.unique (unique_none c.args.found.now.entries c.requires.none)) c.begin.ensures.grows c.in_ok-last.ensures.begins c.in_ok-last.ensures.few,
      omega arith,
    )

pub returns-in_err-next-clause-reached : goal.returns-in_err-next-clause-reached
returns-in_err-next-clause-reached c =
    let cs = passing c.args.passed c.args.index.now.conductors in
    let near = c.args.near.now in
    let d : Key = record { id = 0; place = 0 } in
    let x = get_or near c.loop-start.start-index d in
    let there : IsSome (get cs x) = c.requires.there x (Contains-get_or near c.loop-start.start-index d c.loop-start-test.true) in
    begun_reached cs near c.loop-start.start-index d c.loop-start-test.true c.args.index.now c.loop-start.index c.loop-start.last c.loop-start.found.entries c.loop-start.invariant.0 c.begin-then-not-contains_key.new.found.entries
    c.begin-then-not-contains_key.ensures.grows there

pub race-requires-clause-placed : goal.race-requires-clause-placed
race-requires-clause-placed c =
    let cs = passing c.args.passed c.args.index.now.conductors in
    let near = c.args.near.now in
    let d : Key = record { id = 0; place = 0 } in
    let x = get_or near c.loop-start.start-index d in
    let there : IsSome (get cs x) = c.requires.there x (Contains-get_or near c.loop-start.start-index d c.loop-start-test.true) in
    let none = none_found c.loop-start.found.entries x (sym c.contains_key.ensures ∙ c.if-not-contains_key.true) in
    subst (λ (ds : Conductors). IsPlaced (passing c.args.passed ds) c.begin-then-not-contains_key.new.found.entries) (sym c.loop-start.invariant.0.same)
    (placed_begun cs x c.in_ok-next.next c.loop-start.found.entries c.begin-then-not-contains_key.new.found.entries c.in_ok-next.ensures.begins c.loop-start.invariant.0.placed there none)

pub race-requires-clause-linked : goal.race-requires-clause-linked
race-requires-clause-linked c =
    let cs = passing c.args.passed c.args.index.now.conductors in
    let near = c.args.near.now in
    let d : Key = record { id = 0; place = 0 } in
    let x = get_or near c.loop-start.start-index d in
    let there : IsSome (get cs x) = c.requires.there x (Contains-get_or near c.loop-start.start-index d c.loop-start-test.true) in
    let none = none_found c.loop-start.found.entries x (sym c.contains_key.ensures ∙ c.if-not-contains_key.true) in
    subst (λ (ds : Conductors). AreLinked (passing c.args.passed ds) (λ q. Contains c.loop-start.last.waiting.items q ⊎ Contains c.in_ok-next.next.waiting.items q) c.begin-then-not-contains_key.new.found.entries) (sym c.loop-start.invariant.0.same)
    (linked_begun cs x c.in_ok-next.next c.loop-start.found.entries c.begin-then-not-contains_key.new.found.entries c.in_ok-next.ensures.begins c.loop-start.invariant.0.placed there none
    c.loop-start.last c.loop-start.invariant.0.search c.loop-start.invariant.0.there c.loop-start.invariant.0.linked)

pub race-requires-clause-first : goal.race-requires-clause-first
race-requires-clause-first c =
    let cs = passing c.args.passed c.args.index.now.conductors in
    let near = c.args.near.now in
    let d : Key = record { id = 0; place = 0 } in
    let x = get_or near c.loop-start.start-index d in
    let there : IsSome (get cs x) = c.requires.there x (Contains-get_or near c.loop-start.start-index d c.loop-start-test.true) in
    let none = none_found c.loop-start.found.entries x (sym c.contains_key.ensures ∙ c.if-not-contains_key.true) in
    search_last cs x c.in_ok-next.next c.loop-start.found.entries c.begin-then-not-contains_key.new.found.entries c.in_ok-next.ensures.begins c.loop-start.invariant.0.placed there none
    c.loop-start.last c.loop-start.invariant.0.search c.loop-start.invariant.0.there

pub returns-in_err-last-2-clause-reached : goal.returns-in_err-last-2-clause-reached
returns-in_err-last-2-clause-reached c =
    let cs = passing c.args.passed c.args.index.now.conductors in
    let near = c.args.near.now in
    let d : Key = record { id = 0; place = 0 } in
    let x = get_or near c.loop-start.start-index d in
    let there : IsSome (get cs x) = c.requires.there x (Contains-get_or near c.loop-start.start-index d c.loop-start-test.true) in
    let grows = subst (λ (ds : Conductors). Grows (Reaches (passing c.args.passed ds) c.begin-then-not-contains_key.new.found.entries) c.begin-then-not-contains_key.new.found.entries c.race.new.found.entries) c.loop-start.invariant.0.same c.race.ensures.grows in
    raced_reached cs near c.loop-start.start-index d c.loop-start-test.true c.args.index.now c.loop-start.index c.loop-start.last c.loop-start.found.entries c.loop-start.invariant.0 c.begin-then-not-contains_key.new.found.entries
    c.begin-then-not-contains_key.ensures.grows there c.race.new.found.entries grows

pub loop-start-preserved : goal.loop-start-preserved
loop-start-preserved c =
    let cs = passing c.args.passed c.args.index.now.conductors in
    let near = c.args.near.now in
    let d : Key = record { id = 0; place = 0 } in
    let x = get_or near c.loop-start.start-index d in
    let there : IsSome (get cs x) = c.requires.there x (Contains-get_or near c.loop-start.start-index d c.loop-start-test.true) in
    elim c.if-not-contains_key.branch [
      | then-not-contains_key+in_ok-next+in_ok-last-2 w ↦
          let one = w.begin-then-not-contains_key.new.found.entries in
          let grows = subst (λ (ds : Conductors). Grows (Reaches (passing c.args.passed ds) one) one w.race.new.found.entries) c.loop-start.invariant.0.same w.race.ensures.grows in
          let races = subst (λ (ds : Conductors). Races (passing c.args.passed ds) w.in_ok-last-2.last one w.race.new.found.entries) c.loop-start.invariant.0.same w.in_ok-last-2.ensures.races in
          let later = w.race.ensures.later in
          let before = c.loop-start.invariant.1 in
          rw (w.index-is, w.found-is, w.last-is) (
            searching_more cs near c.loop-start.start-index d c.loop-start-test.true c.args.index.now c.loop-start.index c.loop-start.last c.loop-start.found.entries c.loop-start.invariant.0 one
                w.begin-then-not-contains_key.ensures.grows there w.in_ok-next.next w.race.new.index w.in_ok-last-2.last w.race.new.found.entries w.in_ok-next.ensures.begins w.race.ensures.conductors grows races
                w.in_ok-next.ensures.few w.in_ok-last-2.ensures.count,
            omega (arith, later, before),
          )
      | else-not-contains_key w ↦
          rw (w.index-is, w.found-is, w.last-is) (
            searching_past cs near c.loop-start.start-index d c.loop-start-test.true c.args.index.now c.loop-start.index c.loop-start.last c.loop-start.found.entries c.loop-start.invariant.0 (sym c.contains_key.ensures ∙ w.if-not-contains_key.false),
            c.loop-start.invariant.1,
          )
    ]

pub returns-clause-searches : goal.returns-clause-searches
returns-clause-searches c =
    let cs = passing c.args.passed c.args.index.now.conductors in
    let past : length c.args.near.now ≤ c.loop-start.start-index = search rules in
    searching_ends cs c.args.near.now c.args.index.now c.loop-start.index c.loop-start.last c.loop-start.found.entries
    (subst (λ (ks : List Key). IsSearching cs c.args.index.now c.loop-start.index c.args.near.now ks c.loop-start.last c.loop-start.found.entries) (take_all c.loop-start.start-index c.args.near.now past) c.loop-start.invariant.0)
