use Rattle.std.proofs.Common.{sym}
use Rattle.std.proofs.lemmas.List.{take_rest}
use Rattle.geda_text.proofs.CuttingFields.{fields_of-some, fields_of-none}
use Rattle.geda_text.proofs.pieces.cut_field.Goals as goal

pub returns-in-Some : goal.returns-in-Some
returns-in-Some c = rw take_rest (fields_of-some _ _ c.requires.some c.requires.first (sym c.in-Some.ensures))

pub returns-in-None : goal.returns-in-None
returns-in-None c = fields_of-none _ c.requires.some c.requires.first (sym c.in-None.ensures)
