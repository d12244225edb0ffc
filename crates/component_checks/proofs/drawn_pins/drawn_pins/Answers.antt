use Rattle.std.proofs.Common.{rules, ◌∙◌, ap, filter}
use Rattle.std.proofs.lemmas.List.Elements.{filter_from_retain}
use Rattle.component_checks.proofs.drawn_pins.drawn_pins.Goals as goal
use Rattle.pin_place.specs.Pins.{is_drawn}

pub returns : goal.returns
returns c = filter_from_retain _ is_drawn (λ p x b q h. search rules) _ _ _ c.retain.ensures.filtered ∙ ap (filter is_drawn) c.into_vec-pins.ensures
