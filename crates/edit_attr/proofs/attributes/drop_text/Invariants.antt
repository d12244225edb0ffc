use Rattle.std.proofs.Common.{◌≡◌, ◌++◌, drop, filter, not}
use Rattle.edit_attr.specs.Attributes.{is_attr_named}
use Rattle.edit_attr.proofs.attributes.drop_text.Given as goal

abbrev pub invariant-loop-text : goal.invariant-loop-text
invariant-loop-text l =
    l.after ++ filter (λ t. not (is_attr_named l.name t)) (drop l.text-index l.texts) ≡ filter (λ t. not (is_attr_named l.name t)) l.texts
