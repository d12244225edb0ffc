use Rattle.std.proofs.Common.{◌≡◌, ◌++◌, drop, map}
use Rattle.component_checks.specs.OnPackages.{package_refdeses}
use Rattle.component_checks.proofs.on_packages.refdes_texts.Given as goal

abbrev pub invariant-loop-package : goal.invariant-loop-package
invariant-loop-package l =
    map (λ t. t.now) l.texts.items ++ package_refdeses (drop l.package-index l.packages) ≡ package_refdeses l.packages
