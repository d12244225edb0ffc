use Rattle.std.proofs.Common.{◌∙◌, ◌||◌, Bool, ap, sym}
use Rattle.std.specs.List.{list_any}
use Rattle.attr_table.specs.Cells.{is_cr}
use Rattle.attr_table.proofs.LineLemmas.{cr_line}
use Rattle.attr_table.proofs.cells.line_has_cr.Goals as goal

pub returns-then-has_cr : goal.returns-then-has_cr
returns-then-has_cr c = sym (cr_line c.args.name.now c.args.value.now ∙ ap (λ (b : Bool). b || list_any is_cr c.args.value.now) (sym c.if-has_cr.ensures))

pub returns : goal.returns
returns c =
    c.has_cr-2.ensures ∙ sym (cr_line c.args.name.now c.args.value.now ∙ ap (λ (b : Bool). b || list_any is_cr c.args.value.now) (sym c.if-has_cr.ensures))
