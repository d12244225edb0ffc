use Rattle.std.proofs.Common.{rules}
use Rattle.std.specs.BTreeSet.{IsFromIterResult}
use Rattle.std.proofs.lemmas.Map.Views.{btree_set_contains_from_list, btree_set_contains_iff}
use Rattle.sym_check.specs.Order.{by_symbol_finding, by_symbol_finding_total}
use Rattle.sym_check.proofs.OrderLemmas.{exact_findings}
use Rattle.sym_check.proofs.check.each_once.Goals as goal

pub returns : goal.returns
returns c =
    let made : IsFromIterResult by_symbol_finding c.args.found.items c.in_ok-set.set = search rules in
    λ f.
    let from = btree_set_contains_from_list by_symbol_finding_total exact_findings c.args.found.items c.in_ok-set.set made f in
    let has = btree_set_contains_iff by_symbol_finding_total exact_findings c.in_ok-set.set f in
    (λ k. from.0 (has.1 k), λ k. has.0 (from.1 k))
