use Rattle.std.proofs.Common.{sym, refl, ◌∙◌}
use Rattle.geda_model.specs.Sheets.{ObjectData}
use Rattle.geda_model.specs.declared.object.Body.{Body}
use Rattle.geda_grammar.specs.steps.Sheets.{make_object}
use Rattle.geda_read.proofs.LastOnes.{all_closed, not_closed}
use Rattle.geda_read.proofs.objects.OpenObjects.close.Goals as goal

pub returns-then-is_open : goal.returns-then-is_open
returns-then-is_open c = rw (← c.self.view_is) (not_closed ObjectData Body (λ o. o.body) (λ o. o.attrs) make_object (λ o. refl) c.self.inside.items c.self.inside.tail c.self.invariant.last (sym c.is_open.ensures ∙ c.if-is_open.true))

pub returns : goal.returns
returns c = rw (← c.self.view_is) (all_closed ObjectData Body (λ o. o.body) (λ o. o.attrs) make_object (λ o. refl) c.self.inside.items c.self.inside.tail c.self.invariant.last (sym c.is_open.ensures ∙ c.if-is_open.false))
