use Rattle.std.proofs.Common.{◌≡◌, ◌++◌, drop}
use Rattle.std.specs.List.{flat_map}
use Rattle.backends.specs.TangoText.{package_block}
use Rattle.backends.proofs.tango_text.put_packages.Given as goal

abbrev pub invariant-loop-package : goal.invariant-loop-package
invariant-loop-package l = l.out.items ++ flat_map package_block (drop l.package-index l.packages) ≡ l.fn.out.items ++ flat_map package_block l.packages
