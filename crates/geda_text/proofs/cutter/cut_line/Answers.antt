use Rattle.std.proofs.Common.{sym}
use Rattle.std.proofs.lemmas.List.{take_rest}
use Rattle.geda_text.proofs.CuttingLines.{lines_of-some, lines_of-none, one_line-some, one_line-none}
use Rattle.geda_text.proofs.cutter.cut_line.Goals as goal

pub returns-in-Some-clause-cut : goal.returns-in-Some-clause-cut
returns-in-Some-clause-cut c = rw take_rest (lines_of-some _ _ (sym c.in-Some.ensures))

pub returns-in-None-clause-cut : goal.returns-in-None-clause-cut
returns-in-None-clause-cut c = lines_of-none _ c.requires (sym c.in-None.ensures)

pub returns-in-Some-clause-one : goal.returns-in-Some-clause-one
returns-in-Some-clause-one c = one_line-some _ _ (sym c.in-Some.ensures)

pub returns-in-None-clause-one : goal.returns-in-None-clause-one
returns-in-None-clause-one c = one_line-none _ (sym c.in-None.ensures)
