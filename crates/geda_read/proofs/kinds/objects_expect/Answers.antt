use Rattle.std.proofs.Common.{List, length, ltb, refl, ap, ◌∙◌}
use Rattle.geda_model.specs.Sheets.{ObjectData}
use Rattle.geda_model.specs.declared.object.Body.{Body}
use Rattle.geda_grammar.specs.steps.Sheets.{make_object}
use Rattle.geda_read.specs.steps.Expecting.{level_expects}
use Rattle.geda_read.specs.steps.Levels.{mode_of}
use Rattle.geda_read.proofs.LastOnes.{expected}
use Rattle.geda_read.proofs.kinds.objects_expect.Goals as goal

pub returns : goal.returns
returns c =
    rw (← c.objects.view_is) (c.level_expects.ensures ∙ ap (λ (l : List ObjectData). level_expects (mode_of c.objects.inside.tail) (ltb (length l) c.args.most)) c.as_slice.ensures.objects ∙ expected ObjectData Body (λ o. o.body) (λ o. o.attrs) make_object (λ o. refl) c.args.most c.objects.inside.items c.objects.inside.tail c.objects.invariant.last)
