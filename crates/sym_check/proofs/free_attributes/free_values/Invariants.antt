use Rattle.std.proofs.Common.{◌≡◌, ◌++◌, drop}
use Rattle.std.specs.List.{filter_map}
use Rattle.attr_rules.specs.steps.PartValues.{value_in_part}
use Rattle.sym_check.specs.FreeAttributes.{free_values}
use Rattle.sym_check.proofs.free_attributes.free_values.Given as goal

abbrev pub invariant-loop-part : goal.invariant-loop-part
invariant-loop-part l =
    l.values.items ++ filter_map (value_in_part l.name) (drop l.part-index l.parts) ≡ free_values l.name l.parts
