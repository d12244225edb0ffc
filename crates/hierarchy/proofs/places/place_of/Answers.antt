use Rattle.std.proofs.Common.{◌∙◌, of_calls, rules}
use Rattle.std.specs.Ordering.{nat_cmp}
use Rattle.std.specs.Cmp.Lexicographic.{slice_cmp}
use Rattle.std.proofs.lemmas.Fn.{always_returns_same}
use Rattle.hierarchy.proofs.PlaceLemmas.{searched}
use Rattle.hierarchy.proofs.places.place_of.Goals as goal

-- the closure compares a name with the value
pub returns : goal.returns
returns c =
    let facts = c.binary_search_by.ensures in
    let by_name = facts.position (λ name. slice_cmp nat_cmp name c.args.value.now) (always_returns_same _ _ _ (λ a r f called. search (rules, of_calls))) in
    c.ok.ensures.value ∙ searched c.args.names.now c.requires c.args.value.now c.binary_search_by.result facts.bound by_name
