use Rattle.std.proofs.Common.{◌≡◌, ◌++◌, map}
use Rattle.project_files.specs.MemoryFolder.{files_in}
use Rattle.project_files.proofs.WriteLemmas.{seen}
use Rattle.renum_files.proofs.sheet_texts.files_of.Given as goal

abbrev pub invariant-loop-name : goal.invariant-loop-name
invariant-loop-name l = l.files.items ++ map seen l.name-iterator ≡ files_in l.fn.texts
