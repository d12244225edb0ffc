use Rattle.std.proofs.Common.{◌≡◌, take}
use Rattle.std.specs.List.{flat_map}
use Rattle.geda_write.specs.steps.Output.{more}
use Rattle.geda_write.specs.steps.Texts.{whole_text}
use Rattle.geda_write.proofs.objects.put_objects.Given as goal

-- the objects so far have gone out
abbrev pub invariant-loop-object : goal.invariant-loop-object
invariant-loop-object g l = g.O.Output.got l.out ≡ more (g.O.Output.got l.fn.out) (flat_map whole_text (take l.object-index l.objects))
