use Rattle.std.proofs.Common.{◌≡◌, ◌++◌, drop}
use Rattle.printed_texts.specs.PrintedTexts.{word}
use Rattle.printed_texts.proofs.texts.put_word.Given as goal

abbrev pub invariant-loop-byte : goal.invariant-loop-byte
invariant-loop-byte l = l.out.items ++ word (drop l.byte-index l.text) ≡ l.fn.out.items ++ word l.text
