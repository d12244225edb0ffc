use Rattle.std.proofs.Common.{◌≡◌, ℕ, List, drop}
use Rattle.std.specs.Str.{bytes_eq}
use Rattle.text_tallies.specs.NameSets.{set_has_name}
use Rattle.text_tallies.specs.TwoOfAList.{two_pass}
use Rattle.text_tallies.specs.steps.KeySteps.{is_seen, name_key}
use Rattle.text_tallies.specs.steps.Twice.{twice_after}
use Rattle.text_tallies.proofs.twice.names_twice_in.Given as goal

abbrev pub invariant-loop-name : goal.invariant-loop-name
invariant-loop-name l = (q : List ℕ)
    → twice_after (is_seen l.seen (name_key q)) (set_has_name l.twice q) (bytes_eq q) (drop l.name-index l.names)
    ≡ two_pass (bytes_eq q) l.names
