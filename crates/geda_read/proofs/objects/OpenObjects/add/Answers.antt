use Rattle.std.proofs.Common.{refl, sym}
use Rattle.geda_model.specs.Sheets.{ObjectData}
use Rattle.geda_model.specs.declared.object.Body.{Body}
use Rattle.geda_grammar.specs.steps.Sheets.{make_object}
use Rattle.geda_read.proofs.LastOnes.{adds, adds_stand}
use Rattle.geda_read.proofs.objects.OpenObjects.add.Goals as goal

pub invariant_of-self-2 : goal.invariant_of-self-2
invariant_of-self-2 c = adds_stand ObjectData Body (λ o. o.body) (λ o. o.attrs) make_object (λ o. refl) c.args.self.now c.self.inside.items c.self.inside.tail (sym c.self.view_is) c.self.invariant c.requires.settled c.push.new.self _ c.in_ok-push.ensures.ok c.new-attrs.ensures c.requires.few

pub returns : goal.returns
returns c = sym (adds ObjectData Body (λ o. o.body) (λ o. o.attrs) make_object (λ o. refl) c.args.self.now c.self.inside.items c.self.inside.tail (sym c.self.view_is) c.self.invariant c.requires.settled c.push.new.self _ c.in_ok-push.ensures.ok)
