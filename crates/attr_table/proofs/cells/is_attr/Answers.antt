use Rattle.std.proofs.Common.{◌∙◌, ◌&&◌, Bool, not, ap, sym}
use Rattle.attr_rules.specs.Splits.{starts_well}
use Rattle.attr_table.proofs.LineLemmas.{well_spelled}
use Rattle.attr_table.proofs.cells.is_attr.Goals as goal

pub returns-then-is_misspelled : goal.returns-then-is_misspelled
returns-then-is_misspelled c =
    sym (well_spelled c.args.name.now c.args.value.now ∙ ap (λ (b : Bool). not b && starts_well c.args.value.now) (sym c.if-is_misspelled.ensures))

pub returns : goal.returns
returns c =
    c.starts_well.ensures
    ∙ sym (well_spelled c.args.name.now c.args.value.now ∙ ap (λ (b : Bool). not b && starts_well c.args.value.now) (sym c.if-is_misspelled.ensures))
