use Rattle.std.proofs.Common.{◌≡◌, ◌++◌, drop, filter_map}
use Rattle.hierarchy.specs.Ways.{step_to}
use Rattle.hierarchy.proofs.way.Way.push_sources.Given as goal

abbrev pub invariant-loop-source : goal.invariant-loop-source
invariant-loop-source l = l.steps.items ++ filter_map (λ s. step_to l.self l.id l.refdes s.sheet) (drop l.source-index l.sources)
    ≡ l.fn.steps.items ++ filter_map (λ s. step_to l.self l.id l.refdes s.sheet) l.sources
