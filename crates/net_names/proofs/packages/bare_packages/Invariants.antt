use Rattle.std.proofs.Common.{◌≡◌, [], map, take}
use Rattle.std.specs.Prelude.{slice_index_or}
use Rattle.net_names.specs.steps.PackageRows.{bare_package}
use Rattle.net_names.proofs.packages.bare_packages.Given as goal

abbrev pub invariant-loop-at : goal.invariant-loop-at
invariant-loop-at l = l.packages.items ≡ map (λ place. bare_package (slice_index_or l.refdeses place [])) (take l.at l.places)
