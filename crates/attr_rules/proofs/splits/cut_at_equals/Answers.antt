use Rattle.std.proofs.Common.{◌∙◌, ap, position, sym}
use Rattle.attr_rules.specs.Splits.{is_equals}
use Rattle.attr_rules.proofs.Cutting.{border_before, border_behind}
use Rattle.attr_rules.proofs.splits.cut_at_equals.Goals as goal

pub range-requires-clause-end_boundary : goal.range-requires-clause-end_boundary
range-requires-clause-end_boundary c =
    border_before _ _ (sym (c.in_ok-end.ensures ∙ ap (position is_equals) c.as_bytes.ensures.value))

pub range_from-requires : goal.range_from-requires
range_from-requires c = λ _.
    border_behind _ _ c.utf8.text (sym (c.in_ok-end.ensures ∙ ap (position is_equals) c.as_bytes.ensures.value))
