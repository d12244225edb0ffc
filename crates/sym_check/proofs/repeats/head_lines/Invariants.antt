use Rattle.std.proofs.Common.{◌≡◌, ◌++◌, drop, map}
use Rattle.printed_texts.specs.PrintedTexts.{word}
use Rattle.sym_check.specs.Slotdefs.{heads_of}
use Rattle.sym_check.proofs.repeats.head_lines.Given as goal

abbrev pub invariant-loop-slotdef : goal.invariant-loop-slotdef
invariant-loop-slotdef l =
    l.lines.items ++ map word (heads_of (drop l.slotdef-index l.slotdefs)) ≡ map word (heads_of l.slotdefs)
