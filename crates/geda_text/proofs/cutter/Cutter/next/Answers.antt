use Rattle.std.proofs.Common.{sym, ◌∙◌, ap, refl}
use Rattle.geda_text.specs.Lines.{CutterData}
use Rattle.geda_text.proofs.CuttingLines.{no_lines}
use Rattle.geda_text.proofs.LineEnds.{cut_line}
use Rattle.geda_text.proofs.cutter.Cutter.next.Goals as goal

pub returns-then-is_empty-clause-lines : goal.returns-then-is_empty-clause-lines
returns-then-is_empty-clause-lines c = (sym (ap (λ (d : CutterData). d.lines) c.self.view_is) ∙ no_lines _ c.if-is_empty.ensures, refl)

pub returns-clause-cut : goal.returns-clause-cut
returns-clause-cut c = rw c.without_crs.ensures (cut_line _ c.cut_line.ensures.one)
