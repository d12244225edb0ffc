use Rattle.std.proofs.Common.{◌≡◌, ◌++◌, [], drop, take}
use Rattle.std.specs.List.{flat_map}
use Rattle.geda_defs.specs.Lines.{ended}
use Rattle.spice_out.specs.Faults.{first_spice_fault}
use Rattle.spice_out.specs.SpiceText.{package_card}
use Rattle.spice_out.specs.steps.CardNames.{HasNames}
use Rattle.spice_out.proofs.writing.put_packages.Given as goal

abbrev pub invariant-loop-part : goal.invariant-loop-part
invariant-loop-part l = record {
  text :
      l.out.items ++ flat_map (λ p. ended (package_card l.nets p)) (drop l.part-index l.packages)
      ≡ l.fn.out.items ++ flat_map (λ p. ended (package_card l.nets p)) l.packages;
  names : HasNames (take l.part-index l.packages) l.names;
  fault : first_spice_fault l.nets (take l.part-index l.packages) (drop l.part-index l.packages) ≡ first_spice_fault l.nets [] l.packages;
}
