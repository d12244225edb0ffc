use Rattle.std.proofs.Common.{◌≡◌, ◌++◌, drop}
use Rattle.std.specs.List.{flat_map}
use Rattle.component_checks.specs.OnPackages.{found_on_package}
use Rattle.component_checks.proofs.on_packages.add_on_packages.Given as goal

abbrev pub invariant-loop-package : goal.invariant-loop-package
invariant-loop-package l =
    l.found.items ++ flat_map (found_on_package l.components l.packages) (drop l.package-index l.packages)
    ≡ l.fn.found.items ++ flat_map (found_on_package l.components l.packages) l.packages
