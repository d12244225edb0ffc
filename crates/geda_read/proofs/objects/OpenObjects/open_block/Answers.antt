use Rattle.std.proofs.Common.{sym, refl, ◌∙◌}
use Rattle.geda_model.specs.Sheets.{ObjectData}
use Rattle.geda_model.specs.declared.object.Body.{Body}
use Rattle.geda_grammar.specs.steps.Sheets.{make_object}
use Rattle.geda_read.proofs.LastOnes.{not_opened, open_stands, opened}
use Rattle.geda_read.proofs.objects.OpenObjects.open_block.Goals as goal

pub returns-then-not-is_bare-clause-taken : goal.returns-then-not-is_bare-clause-taken
returns-then-not-is_bare-clause-taken c = rw (← c.self.view_is) (not_opened ObjectData Body (λ o. o.body) (λ o. o.attrs) make_object (λ o. refl) c.self.inside.items c.self.inside.tail c.self.invariant.last (sym c.is_bare.ensures ∙ c.if-not-is_bare.true))

pub invariant_of-self : goal.invariant_of-self
invariant_of-self c = open_stands ObjectData Body (λ o. o.body) (λ o. o.attrs) make_object (λ o. refl) c.self.inside.items c.self.inside.tail c.self.invariant (sym c.is_bare.ensures ∙ c.if-not-is_bare.false)

pub returns-clause-taken : goal.returns-clause-taken
returns-clause-taken c = rw (← c.self.view_is) (opened ObjectData Body (λ o. o.body) (λ o. o.attrs) make_object (λ o. refl) c.self.inside.items c.self.inside.tail c.self.invariant.last (sym c.is_bare.ensures ∙ c.if-not-is_bare.false))
