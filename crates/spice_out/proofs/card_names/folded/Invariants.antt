use Rattle.std.proofs.Common.{◌≡◌, ◌++◌, drop}
use Rattle.spice_out.specs.Cards.{folded}
use Rattle.spice_out.proofs.card_names.folded.Given as goal

abbrev pub invariant-loop-byte : goal.invariant-loop-byte
invariant-loop-byte l = l.text.items ++ folded (drop l.byte-index l.name) ≡ folded l.name
