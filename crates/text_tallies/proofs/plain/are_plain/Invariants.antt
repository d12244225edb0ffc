use Rattle.std.proofs.Common.{◌≡◌, drop, map}
use Rattle.std.specs.List.{list_all}
use Rattle.text_tallies.specs.steps.PlainNames.{is_plain}
use Rattle.text_tallies.proofs.plain.are_plain.Given as goal

abbrev pub invariant-loop-name : goal.invariant-loop-name
invariant-loop-name l =
    list_all is_plain (map (λ n. n.now) (drop l.name-index l.names)) ≡ list_all is_plain (map (λ n. n.now) l.names)
