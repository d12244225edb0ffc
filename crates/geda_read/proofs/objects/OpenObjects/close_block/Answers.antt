use Rattle.std.proofs.Common.{sym, refl, ◌∙◌}
use Rattle.geda_model.specs.Sheets.{ObjectData}
use Rattle.geda_model.specs.declared.object.Body.{Body}
use Rattle.geda_grammar.specs.steps.Sheets.{make_object}
use Rattle.geda_read.proofs.LastOnes.{block_closed, no_block}
use Rattle.geda_read.proofs.objects.OpenObjects.close_block.Goals as goal

pub returns-then-not-is_open-clause-taken : goal.returns-then-not-is_open-clause-taken
returns-then-not-is_open-clause-taken c = rw (← c.self.view_is) (no_block ObjectData Body (λ o. o.body) (λ o. o.attrs) make_object (λ o. refl) c.self.inside.items c.self.inside.tail c.self.invariant.last (sym c.is_open.ensures ∙ c.if-not-is_open.true))

pub returns-clause-taken : goal.returns-clause-taken
returns-clause-taken c = rw (← c.self.view_is) (block_closed ObjectData Body (λ o. o.body) (λ o. o.attrs) make_object (λ o. refl) c.self.inside.items c.self.inside.tail c.self.invariant.last (sym c.is_open.ensures ∙ c.if-not-is_open.false))
