use Rattle.std.proofs.Common.{◌≡◌, take}
use Rattle.std.specs.List.{flat_map}
use Rattle.geda_write.specs.steps.Output.{more}
use Rattle.geda_write.specs.steps.Texts.{text_text}
use Rattle.geda_write.proofs.objects.put_texts.Given as goal

-- the texts so far have gone out
abbrev pub invariant-loop-text : goal.invariant-loop-text
invariant-loop-text g l = g.O.Output.got l.out ≡ more (g.O.Output.got l.fn.out) (flat_map text_text (take l.text-index l.texts))
