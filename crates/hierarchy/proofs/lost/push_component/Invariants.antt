use Rattle.std.proofs.Common.{◌≡◌, ◌++◌, drop, filter_map}
use Rattle.hierarchy.specs.Lost.{component_lost, source_lost}
use Rattle.hierarchy.proofs.lost.push_component.Given as goal

abbrev pub invariant-loop-source : goal.invariant-loop-source
invariant-loop-source l = l.lost.items ++ filter_map (source_lost l.sheets l.name l.way l.component.refdes) (drop l.source-index l.source-items)
    ≡ l.fn.lost.items ++ component_lost l.sheets l.name l.way l.component
