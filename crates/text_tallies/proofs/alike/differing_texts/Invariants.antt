use Rattle.std.proofs.Common.{◌≡◌, ℕ, List, drop, map}
use Rattle.text_tallies.specs.LookAlike.{look_alike}
use Rattle.text_tallies.specs.NameSets.{set_has_name}
use Rattle.text_tallies.specs.steps.FirstNames.{alike_after, first_at}
use Rattle.text_tallies.proofs.alike.differing_texts.Given as goal

abbrev pub invariant-loop-name : goal.invariant-loop-name
invariant-loop-name l = (q : List ℕ)
    → alike_after (first_at l.firsts q) (set_has_name l.differ q) q (map (λ n. n.now) (drop l.name-index l.names))
    ≡ look_alike (map (λ n. n.now) l.names) q
