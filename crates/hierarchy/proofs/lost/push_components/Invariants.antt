use Rattle.std.proofs.Common.{◌≡◌, ◌++◌, drop, flat_map}
use Rattle.hierarchy.specs.Lost.{component_lost, sheet_lost}
use Rattle.hierarchy.proofs.lost.push_components.Given as goal

abbrev pub invariant-loop-component : goal.invariant-loop-component
invariant-loop-component l = l.lost.items ++ flat_map (component_lost l.sheets l.sheet.name l.way) (drop l.component-index l.component-items)
    ≡ l.fn.lost.items ++ sheet_lost l.sheets l.way l.sheet
