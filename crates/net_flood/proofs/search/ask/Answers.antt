use Rattle.std.proofs.Common.{◌≤◌, ◌↔◌, List, length, Contains, take, rules, sym, subst, ◌∙◌}
use Rattle.std.specs.FinMap.{get}
use Rattle.std.proofs.lemmas.List.{take_all}
use Rattle.geda_geom.specs.declared.conductor.Key.{Key}
use Rattle.touch_index.specs.Index.{IsNeighbour}
use Rattle.net_flood.specs.steps.Search.{IsAsking}
use Rattle.net_flood.proofs.SearchLemmas.{asking_begins, asking_more, asking_past, asks_all, asks_grow, asks_next, passing_there}
use Rattle.net_flood.proofs.search.ask.Goals as goal
use Rattle.net_flood.proofs.search.ask.Goals.{then-not-is_that+in_ok-met, else-not-is_that}

pub neighbours-requires : goal.neighbours-requires
neighbours-requires c = record { is_there = passing_there c.args.passed c.args.index.now.conductors c.args.key c.requires.there }

pub loop-other-init : goal.loop-other-init
loop-other-init c = asking_begins c.args.passed c.args.search.now c.args.found.now.entries

pub loop-other-preserved : goal.loop-other-preserved
loop-other-preserved c =
    let near = c.deref-other-items.result.now in
    let d : Key = record { id = 0; place = 0 } in
    elim c.if-not-is_that.branch [
      | then-not-is_that+in_ok-met w ↦
          rw (w.found-is, w.search-is, w.met-is)
          (asking_more c.args.passed near c.loop-other.other-index d c.loop-other-test.true c.loop-other.met c.args.search.now c.loop-other.search c.args.found.now.entries c.loop-other.found.entries
          c.loop-other.invariant w.in_ok-met.field-0 w.find.new.search w.find.new.found.entries (sym c.is_that.ensures ∙ w.if-not-is_that.true) w.find.ensures.grows w.in_ok-met.ensures.looks w.find.ensures.few)
      | else-not-is_that w ↦
          rw (w.found-is, w.search-is, w.met-is)
          (asking_past c.args.passed near c.loop-other.other-index d c.loop-other-test.true c.loop-other.met c.args.search.now c.loop-other.search c.args.found.now.entries c.loop-other.found.entries
          c.loop-other.invariant (sym c.is_that.ensures ∙ w.if-not-is_that.false))
    ]

pub returns-in_err-met-clause-grows : goal.returns-in_err-met-clause-grows
returns-in_err-met-clause-grows c =
    let near = c.deref-other-items.result.now in
    let d : Key = record { id = 0; place = 0 } in
    asks_next c.args.passed c.args.index.now.conductors c.args.key near
    (λ q. subst (λ (ks : List Key). Contains ks q ↔ IsNeighbour (get c.args.index.now.conductors) c.args.key q) (sym c.deref-other-items.ensures.value) (c.in_ok-near.ensures.same q))
    c.requires.there c.loop-other.other-index d c.args.found.now.entries c.loop-other.found.entries c.find.new.found.entries c.loop-other-test.true (sym c.is_that.ensures ∙ c.if-not-is_that.true)
    c.loop-other.invariant.grows c.find.ensures.grows

pub returns-clause-grows : goal.returns-clause-grows
returns-clause-grows c =
    let near = c.deref-other-items.result.now in
    let past : length near ≤ c.loop-other.other-index = search rules in
    asks_grow c.args.passed c.args.index.now.conductors c.args.key near
    (λ q. subst (λ (ks : List Key). Contains ks q ↔ IsNeighbour (get c.args.index.now.conductors) c.args.key q) (sym c.deref-other-items.ensures.value) (c.in_ok-near.ensures.same q))
    c.requires.there (take c.loop-other.other-index near) c.args.found.now.entries c.loop-other.found.entries
    (λ q h. subst (λ ks. Contains ks q) (take_all c.loop-other.other-index near past) h) c.loop-other.invariant.grows

pub returns-clause-looks : goal.returns-clause-looks
returns-clause-looks c =
    let near = c.deref-other-items.result.now in
    let past : length near ≤ c.loop-other.other-index = search rules in
    asks_all c.args.passed c.args.index.now.conductors c.args.key near
    (λ q. subst (λ (ks : List Key). Contains ks q ↔ IsNeighbour (get c.args.index.now.conductors) c.args.key q) (sym c.deref-other-items.ensures.value) (c.in_ok-near.ensures.same q))
    c.requires.there c.loop-other.met c.args.search.now c.loop-other.search c.args.found.now.entries c.loop-other.found.entries
    (subst (λ (ks : List Key). IsAsking c.args.passed ks c.loop-other.met c.args.search.now c.loop-other.search c.args.found.now.entries c.loop-other.found.entries)
    (take_all c.loop-other.other-index near past) c.loop-other.invariant)
