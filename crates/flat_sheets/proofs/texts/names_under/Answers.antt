use Rattle.std.proofs.Common.{◌∙◌, List, ℕ, map, ap}
use Rattle.instance_objects.specs.Texts.{under}
use Rattle.flat_sheets.proofs.NameLemmas.{under_nothing}
use Rattle.flat_sheets.proofs.texts.names_under.Goals as goal

pub returns-then-is_empty : goal.returns-then-is_empty
returns-then-is_empty c =
    let names = c.args.names.items in
    under_nothing c.as_str.result.now c.if-is_empty.ensures names ∙ ap (λ (path : List ℕ). map (under path) names) c.as_str.ensures.text
