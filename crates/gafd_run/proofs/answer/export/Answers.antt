use Rattle.std.proofs.Common.{List, ℕ, None, Some, Ok, Err, refl, subst, ap, ◌∙◌}
use Rattle.gafd_run.specs.declared.fault.RunFault.TheVariants as faults
use Rattle.command_words.specs.declared.command.Command.TheVariants.{Export}
use Rattle.project_files.specs.FileReads.{FileComesTo}
use Rattle.gafd_run.specs.Answers.{Outcome, TextOf, is_symbol_name}
use Rattle.gafd_run.specs.steps.Passing.{ComesOf, Over}
use Rattle.gafd_run.proofs.Passing.{answer_from}
use Rattle.gafd_run.proofs.ExportLemmas.{text_whole}
use Rattle.project_files.proofs.Reading.{bytes_in, of_read}
use Rattle.gafd_run.proofs.answer.export.Goals as goal

pub returns-in-Some-clause-answer : goal.returns-in-Some-clause-answer
returns-in-Some-clause-answer g c =
    let name = c.args.file in
    let Comes : List ℕ → Outcome → Type 0 = TextOf (is_symbol_name name) name in
    let files = g.F.Folder.files c.args.folder.now in
    answer_from _ (Comes c.in-Some.bytes.items) (Over files (Export name)) c.text_of.result
    (λ r h. of_read bytes_in name c.as_str.result.now files (Some c.in-Some.bytes) c.read.result (λ file. FileComesTo (faults.Missing name) Comes file r) c.as_str.ensures.text (c.in_ok-bytes.was ∙ ap Ok c.in-Some.is) (text_whole (is_symbol_name name) name r) c.read.ensures.file h)
    (subst (λ (bytes : List ℕ). ComesOf (Comes bytes) c.text_of.result) c.deref.ensures.value c.text_of.ensures)

pub returns-in-None-clause-answer : goal.returns-in-None-clause-answer
returns-in-None-clause-answer g c =
    let name = c.args.file in
    let Comes : List ℕ → Outcome → Type 0 = TextOf (is_symbol_name name) name in
    let files = g.F.Folder.files c.args.folder.now in
    of_read bytes_in name c.as_str.result.now files None c.read.result (λ file. FileComesTo (faults.Missing name) Comes file (Err (faults.Missing name))) c.as_str.ensures.text (c.in_ok-bytes.was ∙ ap Ok c.in-None.is) (text_whole (is_symbol_name name) name (Err (faults.Missing name))) c.read.ensures.file refl
