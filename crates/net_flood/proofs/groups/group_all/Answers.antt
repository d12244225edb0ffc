use Rattle.std.proofs.Common.{Contains, IsSome, sym, subst, arith, ◌∙◌}
use Rattle.std.specs.FinMap.{get}
use Rattle.geda_geom.specs.declared.conductor.Key.{Key}
use Rattle.net_flood.proofs.ConductorLemmas.{group_end}
use Rattle.net_flood.proofs.CountLemmas.{few_there}
use Rattle.net_flood.proofs.GroupLemmas.{groups_anew}
use Rattle.net_flood.proofs.Outcomes.{on_ok}
use Rattle.net_flood.proofs.SetLemmas.{has_contains}
use Rattle.net_flood.proofs.groups.group_all.Goals as goal

pub search_from-requires-clause-there : goal.search_from-requires-clause-there
search_from-requires-clause-there c = λ q h.
    let has = (has_contains c.in_ok-left.left q).1 (subst (λ ks. Contains ks q) (c.deref.ensures.value ∙ c.in_ok-all.ensures.same) h) in
    sym (c.requires.keys q) ∙ (c.in_ok-left.ensures.same q).0 has

pub put_found-requires-clause-there : goal.put_found-requires-clause-there
put_found-requires-clause-there c = λ q f. let r = c.search_from.ensures.reached q f in c.requires.keys q ∙ group_end c.args.index.now.conductors r.0 q r.2

pub returns-in_err-search_from-clause-steps : goal.returns-in_err-search_from-clause-steps
returns-in_err-search_from-clause-steps c =
    let cs = c.args.index.now.conductors in
    let few = few_there cs c.search_from.new.found.entries c.search_from.ensures.unique (λ q f. let r = c.search_from.ensures.reached q f in group_end cs r.0 q r.2) in
    let steps = c.search_from.ensures.steps in
    omega arith

pub returns-clause-partition : goal.returns-clause-partition
returns-clause-partition c = on_ok c.put_found.result (λ puts. puts.partition) c.put_found.ensures.puts

pub returns-clause-groups : goal.returns-clause-groups
returns-clause-groups c =
    let cs = c.args.index.now.conductors in
    let near = c.deref.result.now in
    let every = λ (q : Key) (there : IsSome (get cs q)). subst (λ ks. Contains ks q) (sym (c.deref.ensures.value ∙ c.in_ok-all.ensures.same))
    ((has_contains c.in_ok-left.left q).0 ((c.in_ok-left.ensures.same q).1 (c.requires.keys q ∙ there))) in
    on_ok c.put_found.result (groups_anew cs near c.in_ok-search_from.field-0 c.search_from.new.found.entries c.in_ok-left.left c.put_found.new.left c.args.partition.now c.put_found.new.self
    every c.requires.empty c.in_ok-search_from.ensures.searches) c.put_found.ensures.puts

pub returns-clause-steps : goal.returns-clause-steps
returns-clause-steps c =
    let cs = c.args.index.now.conductors in
    let few = few_there cs c.search_from.new.found.entries c.search_from.ensures.unique (λ q f. let r = c.search_from.ensures.reached q f in group_end cs r.0 q r.2) in
    let steps = c.search_from.ensures.steps in
    omega arith
