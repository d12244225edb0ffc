use Rattle.std.proofs.Common.{◌≡◌, ◌+◌, IsSome, length, ap, refl, sym, subst, ◌∙◌, arith}
use Rattle.std.specs.FinMap.{get, len}
use Rattle.std.proofs.lemmas.Result.{IfOk-weaker}
use Rattle.touch_index.specs.Index.{IsNeighbour}
use Rattle.net_flood.specs.Grouping.{Conductors}
use Rattle.net_flood.specs.declared.search.Search.{Search}
use Rattle.net_flood.specs.steps.Search.{Grows, IsRacing, Looks, passing}
use Rattle.net_flood.proofs.CountLemmas.{few_there, less_to_do}
use Rattle.net_flood.proofs.SearchLemmas.{asked_grows, asked_there, grows_then, key_there, met_count, no_keys, racing_ends, racing_meets, racing_more, second_search, third_search}
use Rattle.net_flood.proofs.search.race.Goals as goal

pub ask-requires : goal.ask-requires
ask-requires c = record {
  there = subst (λ (ds : Conductors). IsSome (get (passing c.args.passed ds) c.in-Some.key)) (sym c.loop-key.invariant.0.same)
      (key_there (passing c.args.passed c.args.index.now.conductors) c.args.index.now c.loop-key.index c.loop-key.first c.loop-key.second c.args.found.now.entries c.loop-key.found.entries _ c.loop-key.invariant.0
      c.in-Some.key c.pop_front.new.self.items c.in-Some.ensures.items);
}

pub returns-in_err-ask-clause-grows : goal.returns-in_err-ask-clause-grows
returns-in_err-ask-clause-grows c =
    let cs = passing c.args.passed c.args.index.now.conductors in
    let grows = subst (λ (ds : Conductors). Grows (IsNeighbour (get (passing c.args.passed ds)) c.in-Some.key) c.loop-key.found.entries c.ask.new.found.entries) c.loop-key.invariant.0.same c.ask.ensures.grows in
    asked_grows cs c.args.index.now c.loop-key.index c.loop-key.first c.loop-key.second c.args.found.now.entries c.loop-key.found.entries _ c.loop-key.invariant.0
    c.in-Some.key c.pop_front.new.self.items c.in-Some.ensures.items
    c.ask.new.found.entries grows

pub meet-requires-clause-first : goal.meet-requires-clause-first
meet-requires-clause-first c =
    let cs = passing c.args.passed c.args.index.now.conductors in
    let grows = subst (λ (ds : Conductors). Grows (IsNeighbour (get (passing c.args.passed ds)) c.in-Some.key) c.loop-key.found.entries c.ask.new.found.entries) c.loop-key.invariant.0.same c.ask.ensures.grows in
    let popped : Search = record { start = c.loop-key.first.start; row = c.loop-key.first.row; waiting = c.pop_front.new.self } in
    let looks = subst (λ (ds : Conductors). Looks (IsNeighbour (get (passing c.args.passed ds)) c.in-Some.key) c.in_ok-ask.field-0 popped c.ask.new.search c.loop-key.found.entries c.ask.new.found.entries)
    c.loop-key.invariant.0.same c.in_ok-ask.ensures.looks in
    third_search cs c.args.index.now c.loop-key.index c.loop-key.first c.loop-key.second c.args.found.now.entries c.loop-key.found.entries _ c.loop-key.invariant.0
    c.in-Some.key c.pop_front.new.self.items c.in-Some.ensures.items
    c.ask.new.found.entries grows popped c.ask.new.search c.in_ok-ask.field-0 looks refl refl refl

pub meet-requires-clause-second : goal.meet-requires-clause-second
meet-requires-clause-second c =
    let cs = passing c.args.passed c.args.index.now.conductors in
    let grows = subst (λ (ds : Conductors). Grows (IsNeighbour (get (passing c.args.passed ds)) c.in-Some.key) c.loop-key.found.entries c.ask.new.found.entries) c.loop-key.invariant.0.same c.ask.ensures.grows in
    let popped : Search = record { start = c.loop-key.first.start; row = c.loop-key.first.row; waiting = c.pop_front.new.self } in
    let looks = subst (λ (ds : Conductors). Looks (IsNeighbour (get (passing c.args.passed ds)) c.in-Some.key) c.in_ok-ask.field-0 popped c.ask.new.search c.loop-key.found.entries c.ask.new.found.entries)
    c.loop-key.invariant.0.same c.in_ok-ask.ensures.looks in
    second_search cs c.args.index.now c.loop-key.index c.loop-key.first c.loop-key.second c.args.found.now.entries c.loop-key.found.entries _ c.loop-key.invariant.0
    c.in-Some.key c.pop_front.new.self.items c.in-Some.ensures.items
    c.ask.new.found.entries grows popped c.ask.new.search c.in_ok-ask.field-0 looks refl refl refl

pub returns-then-branch-clause-grows : goal.returns-then-branch-clause-grows
returns-then-branch-clause-grows c =
    let cs = passing c.args.passed c.args.index.now.conductors in
    let grows = subst (λ (ds : Conductors). Grows (IsNeighbour (get (passing c.args.passed ds)) c.in-Some.key) c.loop-key.found.entries c.ask.new.found.entries) c.loop-key.invariant.0.same c.ask.ensures.grows in
    let asked = asked_grows cs c.args.index.now c.loop-key.index c.loop-key.first c.loop-key.second c.args.found.now.entries c.loop-key.found.entries _ c.loop-key.invariant.0
    c.in-Some.key c.pop_front.new.self.items c.in-Some.ensures.items
    c.ask.new.found.entries grows in
    grows_then _ (λ q. ⊥) _ c.args.found.now.entries c.ask.new.found.entries c.meet.new.found.entries (λ q r. r) (λ q n. absurd n) asked c.meet.ensures.grows

pub returns-then-branch-clause-races : goal.returns-then-branch-clause-races
returns-then-branch-clause-races c =
    let cs = passing c.args.passed c.args.index.now.conductors in
    let grows = subst (λ (ds : Conductors). Grows (IsNeighbour (get (passing c.args.passed ds)) c.in-Some.key) c.loop-key.found.entries c.ask.new.found.entries) c.loop-key.invariant.0.same c.ask.ensures.grows in
    let popped : Search = record { start = c.loop-key.first.start; row = c.loop-key.first.row; waiting = c.pop_front.new.self } in
    let looks = subst (λ (ds : Conductors). Looks (IsNeighbour (get (passing c.args.passed ds)) c.in-Some.key) c.in_ok-ask.field-0 popped c.ask.new.search c.loop-key.found.entries c.ask.new.found.entries)
    c.loop-key.invariant.0.same c.in_ok-ask.ensures.looks in
    IfOk-weaker c.meet.result _ _ (λ last meets. racing_meets cs c.args.index.now c.loop-key.index c.loop-key.first c.loop-key.second c.args.found.now.entries c.loop-key.found.entries _ c.loop-key.invariant.0
    c.in-Some.key c.pop_front.new.self.items c.in-Some.ensures.items
    c.ask.new.found.entries grows popped c.ask.new.search c.in_ok-ask.field-0 looks refl refl refl c.if-branch.true last c.meet.new.found.entries meets) c.meet.ensures.meets

pub returns-then-branch-clause-count : goal.returns-then-branch-clause-count
returns-then-branch-clause-count c =
    let cs = passing c.args.passed c.args.index.now.conductors in
    let grows = subst (λ (ds : Conductors). Grows (IsNeighbour (get (passing c.args.passed ds)) c.in-Some.key) c.loop-key.found.entries c.ask.new.found.entries) c.loop-key.invariant.0.same c.ask.ensures.grows in
    let popped : Search = record { start = c.loop-key.first.start; row = c.loop-key.first.row; waiting = c.pop_front.new.self } in
    let looks = subst (λ (ds : Conductors). Looks (IsNeighbour (get (passing c.args.passed ds)) c.in-Some.key) c.in_ok-ask.field-0 popped c.ask.new.search c.loop-key.found.entries c.ask.new.found.entries)
    c.loop-key.invariant.0.same c.in_ok-ask.ensures.looks in
    IfOk-weaker c.meet.result _ _ (λ last meets. met_count cs c.args.index.now c.loop-key.index c.loop-key.first c.loop-key.second c.args.found.now.entries c.loop-key.found.entries _ c.loop-key.invariant.0
    c.in-Some.key c.pop_front.new.self.items c.in-Some.ensures.items
    c.ask.new.found.entries grows popped c.ask.new.search c.in_ok-ask.field-0 looks refl refl refl c.if-branch.true last c.meet.new.found.entries meets
    c.ask.new.index c.meet.ensures.grows c.ask.ensures.steps c.ask.ensures.few) c.meet.ensures.meets

pub loop-key-smaller : goal.loop-key-smaller
loop-key-smaller c =
    let cs = passing c.args.passed c.args.index.now.conductors in
    let grows = subst (λ (ds : Conductors). Grows (IsNeighbour (get (passing c.args.passed ds)) c.in-Some.key) c.loop-key.found.entries c.ask.new.found.entries) c.loop-key.invariant.0.same c.ask.ensures.grows in
    let long : length c.loop-key.first.waiting.items ≡ length c.pop_front.new.self.items + 1 = omega (arith, ap length c.in-Some.ensures.items) in
    rw (c.swap.ensures.x_after, c.swap.ensures.y_after)
    (less_to_do (len cs) (length c.loop-key.found.entries) (length c.ask.new.found.entries) (length c.loop-key.first.waiting.items) (length c.loop-key.second.waiting.items) (length c.ask.new.search.waiting.items)
    (length c.pop_front.new.self.items)
    (few_there cs c.ask.new.found.entries (grows.unique c.loop-key.invariant.0.unique) (asked_there cs c.args.index.now c.loop-key.index c.loop-key.first c.loop-key.second c.args.found.now.entries c.loop-key.found.entries _ c.loop-key.invariant.0
    c.in-Some.key c.pop_front.new.self.items c.in-Some.ensures.items
    c.ask.new.found.entries grows)) grows.more long c.ask.ensures.few)

pub loop-key-preserved : goal.loop-key-preserved
loop-key-preserved c =
    let cs = passing c.args.passed c.args.index.now.conductors in
    let grows = subst (λ (ds : Conductors). Grows (IsNeighbour (get (passing c.args.passed ds)) c.in-Some.key) c.loop-key.found.entries c.ask.new.found.entries) c.loop-key.invariant.0.same c.ask.ensures.grows in
    let popped : Search = record { start = c.loop-key.first.start; row = c.loop-key.first.row; waiting = c.pop_front.new.self } in
    let looks = subst (λ (ds : Conductors). Looks (IsNeighbour (get (passing c.args.passed ds)) c.in-Some.key) c.in_ok-ask.field-0 popped c.ask.new.search c.loop-key.found.entries c.ask.new.found.entries)
    c.loop-key.invariant.0.same c.in_ok-ask.ensures.looks in
    let most = c.args.index.now.asked + (length c.args.first.waiting.items + length c.args.second.waiting.items) in
    let next = racing_more cs c.args.index.now c.loop-key.index c.loop-key.first c.loop-key.second c.args.found.now.entries c.loop-key.found.entries _ c.loop-key.invariant.0
    c.in-Some.key c.pop_front.new.self.items c.in-Some.ensures.items
    c.ask.new.found.entries grows popped c.ask.new.search c.in_ok-ask.field-0 looks refl refl refl
    c.ask.new.index c.ask.ensures.conductors (grows.unique c.loop-key.invariant.0.unique) c.if-branch.false c.ask.ensures.steps c.ask.ensures.few in
    let later = c.ask.ensures.later in
    let before = c.loop-key.invariant.1 in (
      subst (λ (s : Search). IsRacing cs c.args.index.now c.ask.new.index s c.swap.new.y c.args.found.now.entries c.ask.new.found.entries most) (sym c.swap.ensures.x_after)
          (subst (λ (s : Search). IsRacing cs c.args.index.now c.ask.new.index c.loop-key.second s c.args.found.now.entries c.ask.new.found.entries most) (sym c.swap.ensures.y_after) next),
      omega (arith, later, before),
    )

pub returns-clause-races : goal.returns-clause-races
returns-clause-races c =
    racing_ends (passing c.args.passed c.args.index.now.conductors) c.args.index.now c.loop-key.index c.loop-key.first c.loop-key.second c.args.found.now.entries c.loop-key.found.entries _
    c.loop-key.invariant.0 (no_keys c.loop-key.first.waiting.items (sym c.loop-key.first.waiting.ok.0 ∙ c.in_default.ensures.cases.0))
