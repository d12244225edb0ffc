use Rattle.std.proofs.Common.{◌≡◌, ◌++◌, drop, option_map}
use Rattle.pin_matrix.specs.MatrixFiles.{levels_of}
use Rattle.pin_matrix.proofs.reading.put_levels.Given as goal

abbrev pub invariant-loop-byte : goal.invariant-loop-byte
invariant-loop-byte l = option_map (λ more. l.levels.items ++ more) (levels_of (drop l.byte-index l.text)) ≡ option_map (λ more. l.fn.levels.items ++ more) (levels_of l.text)
