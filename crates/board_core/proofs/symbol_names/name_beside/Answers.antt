use Rattle.std.proofs.Common.{Option, Some, List, sym, ap, ◌∙◌}
use Rattle.geda_model.specs.Shapes.{ComponentData, PartData}
use Rattle.board_core.specs.steps.SymbolNames.{name_beside}
use Rattle.board_core.proofs.symbol_names.name_beside.Goals as goal

pub returns-in-None : goal.returns-in-None
returns-in-None c =
    ap (λ (component : ComponentData). name_beside component.basename component.embedded) (sym c.component.view_is)
    ∙ ap (λ (parts : Option (List PartData)). name_beside c.component.inside.basename parts) c.in-None.is
    ∙ ap Some (sym c.as_str.ensures.text)
