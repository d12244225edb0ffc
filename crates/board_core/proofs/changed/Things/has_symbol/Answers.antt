use Rattle.std.proofs.Common.{ℕ, List, Option, sym, ap, ◌∙◌}
use Rattle.project_model.specs.Items.{Item}
use Rattle.geda_model.specs.Shapes.{ComponentData, PartData}
use Rattle.board_core.specs.Changed.{has_symbol, has_thing, is_symbol}
use Rattle.board_core.proofs.changed.Things.has_symbol.Goals as goal

pub returns-in-None : goal.returns-in-None
returns-in-None c =
    let items = c.self.inside.items.now in
    let now = c.args.component.now in
    c.contains.ensures
    ∙ c.self.invariant.names c.as_str.result.now
    ∙ ap (λ (name : List ℕ). has_thing (is_symbol name) items) c.as_str.ensures.text
    ∙ ap (λ (parts : Option (List PartData)). has_symbol items c.component.inside.basename parts) (sym c.in-None.is)
    ∙ ap (λ (component : ComponentData). has_symbol items component.basename component.embedded) c.component.view_is
    ∙ ap (λ (all : List Item). has_symbol all now.basename now.embedded) c.self.view_is
