use Rattle.std.proofs.Common.{◌≡◌, ◌++◌, drop, map}
use Rattle.component_checks.specs.steps.FoundBy.{unknown_at}
use Rattle.component_checks.proofs.on_contents.add_unknown_among.Given as goal

abbrev pub invariant-loop-number : goal.invariant-loop-number
invariant-loop-number l =
    l.found.items ++ map (unknown_at l.component) (drop l.number-index l.numbers)
    ≡ l.fn.found.items ++ map (unknown_at l.component) l.numbers
