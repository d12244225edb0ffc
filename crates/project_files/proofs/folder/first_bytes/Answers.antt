use Rattle.std.proofs.Common.{sym, arith, inl, inr}
use Rattle.std.proofs.lemmas.List.{take_all}
use Rattle.project_files.proofs.folder.first_bytes.Goals as goal

pub returns-in-None : goal.returns-in-None
returns-in-None c = sym (take_all 4194305 _ (elim c.in-None.ensures.lookup.0 [ inl past ↦ omega arith | inr short ↦ omega arith ]))
