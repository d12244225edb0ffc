use Rattle.std.proofs.Common.{◌∙◌, Bool, ◌&&◌, ap}
use Rattle.std.specs.List.{filter_map, list_any}
use Rattle.std.specs.Str.{bytes_eq}
use Rattle.text_tallies.specs.PairSets.{same_pair}
use Rattle.text_tallies.specs.TwoOfAList.{two_pass}
use Rattle.component_checks.specs.steps.Repeats.{whole_name}
use Rattle.component_checks.proofs.ClashLemmas.{any_clashing}
use Rattle.component_checks.proofs.repeats.repeats_of.Goals as goal

pub returns : goal.returns
returns c = record {
  clashing = λ q.
      c.in_ok-names_once.ensures q
      ∙ ap (list_any (bytes_eq q)) c.in_ok-clashing.ensures
      ∙ any_clashing q c.in_ok-twice.twice c.args.components.now
      ∙ ap (λ (b : Bool). b && list_any (bytes_eq q) (filter_map whole_name c.args.components.now))
      (c.in_ok-twice.ensures q ∙ ap (two_pass (bytes_eq q)) c.in_ok-numbered.ensures);
  slotted = λ q. c.in_ok-pairs_twice.ensures q ∙ ap (two_pass (same_pair q)) c.in_ok-slotted.ensures;
}
