use Rattle.std.proofs.Common.{Contains, arith, ap, sym, subst, IsSome, ◌∙◌}
use Rattle.std.specs.FinMap.{get, remove}
use Rattle.geda_geom.specs.declared.conductor.Key.{Key}
use Rattle.touch_index.specs.Index.{IsSpanning}
use Rattle.net_flood.specs.Grouping.{Conductors}
use Rattle.net_flood.specs.steps.Partition.{head_at, members_of}
use Rattle.net_flood.specs.steps.Search.{IsFound, IsReached, Searches}
use Rattle.net_flood.proofs.ConductorLemmas.{group_itself}
use Rattle.net_flood.proofs.CountLemmas.{few_key}
use Rattle.net_flood.proofs.GroupLemmas.{found_count, found_free, found_there, groups_without, left_alike, left_free, near_there, together_there}
use Rattle.net_flood.proofs.Outcomes.{on_ok_two}
use Rattle.net_flood.proofs.groups.split.Goals as goal

pub search_from-requires-clause-there : goal.search_from-requires-clause-there
search_from-requires-clause-there c =
    let cs = c.args.index.now.conductors in
    let key = c.args.key in
    let old = c.args.partition.now in
    let near = c.deref.result.now in
    let all = subst (IsSpanning (get cs) key) (sym c.deref.ensures.value) c.in_ok-near.ensures.spanning in
    subst (λ (ds : Conductors). (q : Key) → Contains near q → IsSome (get (remove ds key) q)) (sym c.spanning_neighbours.ensures.conductors) (near_there cs key old c.requires.partition c.requires.groups near all)

pub returns-in_err-near-clause-steps : goal.returns-in_err-near-clause-steps
returns-in_err-near-clause-steps c = λ keys group.
    let one = few_key c.args.key keys ((group.same c.args.key).1 (group_itself c.args.index.now.conductors c.args.key c.requires.there)) in
    let asked = c.spanning_neighbours.ensures.asked in
    omega arith

pub take-left-requires-clause-there : goal.take-left-requires-clause-there
take-left-requires-clause-there c = together_there c.args.index.now.conductors (members_of c.args.partition.now) c.args.key c.requires.groups c.requires.there

pub returns-in_err-start-clause-steps : goal.returns-in_err-start-clause-steps
returns-in_err-start-clause-steps c = λ keys group.
    let cs = c.args.index.now.conductors in
    let key = c.args.key in
    let old = c.args.partition.now in
    let near = c.deref.result.now in
    let all = subst (IsSpanning (get cs) key) (sym c.deref.ensures.value) c.in_ok-near.ensures.spanning in
    let found = c.search_from.new.found.entries in
    let same = c.spanning_neighbours.ensures.conductors in
    let reached = subst (λ (ds : Conductors). (q : Key) → IsFound found q → IsReached (remove ds key) near q) same c.search_from.ensures.reached in
    let count = found_count cs key old c.requires.partition c.requires.groups near all found keys c.search_from.ensures.unique reached group c.requires.there in
    let asked = c.spanning_neighbours.ensures.asked in
    let steps = c.search_from.ensures.steps in
    omega arith

pub put_found-requires-clause-there : goal.put_found-requires-clause-there
put_found-requires-clause-there c =
    let cs = c.args.index.now.conductors in
    let key = c.args.key in
    let old = c.args.partition.now in
    let near = c.deref.result.now in
    let all = subst (IsSpanning (get cs) key) (sym c.deref.ensures.value) c.in_ok-near.ensures.spanning in
    let found = c.search_from.new.found.entries in
    let same = c.spanning_neighbours.ensures.conductors in
    let reached = subst (λ (ds : Conductors). (q : Key) → IsFound found q → IsReached (remove ds key) near q) same c.search_from.ensures.reached in
    let start = c.in_ok-start.start in
    let searches = subst (λ (ds : Conductors). Searches (remove ds key) near start found) same c.in_ok-start.ensures.searches in
    let heads = λ (q : Key). ap (λ es. head_at es q) c.take-left.ensures.heads in
    found_there cs key old c.requires.partition c.requires.groups c.take-left.result c.remove.new.self c.take-left.new.self c.take-left.ensures.takes c.remove.ensures.updates.0 heads
    near all start found reached searches

pub put_found-requires-clause-free : goal.put_found-requires-clause-free
put_found-requires-clause-free c =
    let cs = c.args.index.now.conductors in
    let key = c.args.key in
    let old = c.args.partition.now in
    let near = c.deref.result.now in
    let all = subst (IsSpanning (get cs) key) (sym c.deref.ensures.value) c.in_ok-near.ensures.spanning in
    let found = c.search_from.new.found.entries in
    let same = c.spanning_neighbours.ensures.conductors in
    let reached = subst (λ (ds : Conductors). (q : Key) → IsFound found q → IsReached (remove ds key) near q) same c.search_from.ensures.reached in
    let start = c.in_ok-start.start in
    let searches = subst (λ (ds : Conductors). Searches (remove ds key) near start found) same c.in_ok-start.ensures.searches in
    let heads = λ (q : Key). ap (λ es. head_at es q) c.take-left.ensures.heads in
    found_free cs key old c.requires.partition c.requires.groups c.take-left.result c.remove.new.self c.take-left.new.self c.take-left.ensures.takes c.remove.ensures.updates.0 heads
    near all start found reached searches

pub returns-in_err-put_found-clause-steps : goal.returns-in_err-put_found-clause-steps
returns-in_err-put_found-clause-steps c = λ keys group.
    let cs = c.args.index.now.conductors in
    let key = c.args.key in
    let old = c.args.partition.now in
    let near = c.deref.result.now in
    let all = subst (IsSpanning (get cs) key) (sym c.deref.ensures.value) c.in_ok-near.ensures.spanning in
    let found = c.search_from.new.found.entries in
    let same = c.spanning_neighbours.ensures.conductors in
    let reached = subst (λ (ds : Conductors). (q : Key) → IsFound found q → IsReached (remove ds key) near q) same c.search_from.ensures.reached in
    let count = found_count cs key old c.requires.partition c.requires.groups near all found keys c.search_from.ensures.unique reached group c.requires.there in
    let asked = c.spanning_neighbours.ensures.asked in
    let steps = c.search_from.ensures.steps in
    omega arith

pub put_left-requires-clause-alike : goal.put_left-requires-clause-alike
put_left-requires-clause-alike c =
    let cs = c.args.index.now.conductors in
    let key = c.args.key in
    let old = c.args.partition.now in
    let near = c.deref.result.now in
    let all = subst (IsSpanning (get cs) key) (sym c.deref.ensures.value) c.in_ok-near.ensures.spanning in
    let found = c.search_from.new.found.entries in
    let same = c.spanning_neighbours.ensures.conductors in
    let reached = subst (λ (ds : Conductors). (q : Key) → IsFound found q → IsReached (remove ds key) near q) same c.search_from.ensures.reached in
    let start = c.in_ok-start.start in
    let searches = subst (λ (ds : Conductors). Searches (remove ds key) near start found) same c.in_ok-start.ensures.searches in
    let heads = λ (q : Key). ap (λ es. head_at es q) c.take-left.ensures.heads in
    left_alike cs key old c.requires.partition c.requires.groups c.take-left.result c.remove.new.self c.take-left.new.self c.take-left.ensures.takes c.remove.ensures.updates.0 heads
    near all start found reached searches c.put_found.new.left c.put_found.new.self c.in_ok-put_found.ensures.puts c.unwrap-head.result (sym c.head.ensures ∙ c.unwrap-head.ensures)

pub put_left-requires-clause-free : goal.put_left-requires-clause-free
put_left-requires-clause-free c =
    let cs = c.args.index.now.conductors in
    let key = c.args.key in
    let old = c.args.partition.now in
    let near = c.deref.result.now in
    let all = subst (IsSpanning (get cs) key) (sym c.deref.ensures.value) c.in_ok-near.ensures.spanning in
    let found = c.search_from.new.found.entries in
    let same = c.spanning_neighbours.ensures.conductors in
    let reached = subst (λ (ds : Conductors). (q : Key) → IsFound found q → IsReached (remove ds key) near q) same c.search_from.ensures.reached in
    let start = c.in_ok-start.start in
    let searches = subst (λ (ds : Conductors). Searches (remove ds key) near start found) same c.in_ok-start.ensures.searches in
    let heads = λ (q : Key). ap (λ es. head_at es q) c.take-left.ensures.heads in
    left_free cs key old c.requires.partition c.requires.groups c.take-left.result c.remove.new.self c.take-left.new.self c.take-left.ensures.takes c.remove.ensures.updates.0 heads
    near all start found reached searches c.put_found.new.left c.put_found.new.self c.in_ok-put_found.ensures.puts

pub returns-clause-groups : goal.returns-clause-groups
returns-clause-groups c =
    let cs = c.args.index.now.conductors in
    let key = c.args.key in
    let old = c.args.partition.now in
    let near = c.deref.result.now in
    let all = subst (IsSpanning (get cs) key) (sym c.deref.ensures.value) c.in_ok-near.ensures.spanning in
    let found = c.search_from.new.found.entries in
    let same = c.spanning_neighbours.ensures.conductors in
    let reached = subst (λ (ds : Conductors). (q : Key) → IsFound found q → IsReached (remove ds key) near q) same c.search_from.ensures.reached in
    let start = c.in_ok-start.start in
    let searches = subst (λ (ds : Conductors). Searches (remove ds key) near start found) same c.in_ok-start.ensures.searches in
    let heads = λ (q : Key). ap (λ es. head_at es q) c.take-left.ensures.heads in
    on_ok_two c.put_left.result (groups_without cs key old c.requires.partition c.requires.groups c.take-left.result c.remove.new.self c.take-left.new.self c.take-left.ensures.takes c.remove.ensures.updates.0 heads
    near all start found reached searches c.put_found.new.left c.put_found.new.self c.in_ok-put_found.ensures.puts c.put_left.new.self) c.put_left.ensures.partition c.put_left.ensures.puts

pub returns-clause-steps : goal.returns-clause-steps
returns-clause-steps c = λ keys group.
    let cs = c.args.index.now.conductors in
    let key = c.args.key in
    let old = c.args.partition.now in
    let near = c.deref.result.now in
    let all = subst (IsSpanning (get cs) key) (sym c.deref.ensures.value) c.in_ok-near.ensures.spanning in
    let found = c.search_from.new.found.entries in
    let same = c.spanning_neighbours.ensures.conductors in
    let reached = subst (λ (ds : Conductors). (q : Key) → IsFound found q → IsReached (remove ds key) near q) same c.search_from.ensures.reached in
    let count = found_count cs key old c.requires.partition c.requires.groups near all found keys c.search_from.ensures.unique reached group c.requires.there in
    let asked = c.spanning_neighbours.ensures.asked in
    let steps = c.search_from.ensures.steps in
    omega arith
