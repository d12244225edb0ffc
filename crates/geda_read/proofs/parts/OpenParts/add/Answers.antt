use Rattle.std.proofs.Common.{refl, sym}
use Rattle.geda_model.specs.Shapes.{PartData}
use Rattle.geda_model.specs.declared.shape.Shape.{Shape}
use Rattle.geda_grammar.specs.steps.Sheets.{make_part}
use Rattle.geda_read.proofs.LastOnes.{adds, adds_stand}
use Rattle.geda_read.proofs.parts.OpenParts.add.Goals as goal

pub invariant_of-self-2 : goal.invariant_of-self-2
invariant_of-self-2 c = adds_stand PartData Shape (λ p. p.shape) (λ p. p.attrs) make_part (λ p. refl) c.args.self.now c.self.inside.items c.self.inside.tail (sym c.self.view_is) c.self.invariant c.requires.settled c.push.new.self _ c.in_ok-push.ensures.ok c.new-attrs.ensures c.requires.few

pub returns : goal.returns
returns c = sym (adds PartData Shape (λ p. p.shape) (λ p. p.attrs) make_part (λ p. refl) c.args.self.now c.self.inside.items c.self.inside.tail (sym c.self.view_is) c.self.invariant c.requires.settled c.push.new.self _ c.in_ok-push.ensures.ok)
