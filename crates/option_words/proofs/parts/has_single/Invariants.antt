use Rattle.std.proofs.Common.{◌≡◌, length, map, string_bytes}
use Rattle.option_words.specs.steps.LoneHyphens.{has_single}
use Rattle.option_words.proofs.parts.has_single.Given as goal

abbrev pub invariant-loop-rest : goal.invariant-loop-rest
invariant-loop-rest l = has_single (map string_bytes l.rest) ≡ has_single (map string_bytes l.words)

abbrev pub decreases-loop-rest : goal.decreases-loop-rest
decreases-loop-rest l = length l.rest
