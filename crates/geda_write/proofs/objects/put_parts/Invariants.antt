use Rattle.std.proofs.Common.{◌≡◌, take}
use Rattle.std.specs.List.{flat_map}
use Rattle.geda_write.specs.steps.Output.{more}
use Rattle.geda_write.specs.steps.Texts.{part_text}
use Rattle.geda_write.proofs.objects.put_parts.Given as goal

-- the parts so far have gone out
abbrev pub invariant-loop-part : goal.invariant-loop-part
invariant-loop-part g l = g.O.Output.got l.out ≡ more (g.O.Output.got l.fn.out) (flat_map part_text (take l.part-index l.parts))
