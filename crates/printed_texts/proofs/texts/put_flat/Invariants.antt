use Rattle.std.proofs.Common.{◌≡◌, ◌++◌, drop}
use Rattle.printed_texts.specs.PrintedTexts.{flat}
use Rattle.printed_texts.proofs.texts.put_flat.Given as goal

abbrev pub invariant-loop-byte : goal.invariant-loop-byte
invariant-loop-byte l = l.out.items ++ flat (drop l.byte-index l.text) ≡ l.fn.out.items ++ flat l.text
