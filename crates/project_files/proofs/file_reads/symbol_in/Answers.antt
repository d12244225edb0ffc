use Rattle.std.proofs.Common.{ℕ, List, Err, ap, subst, ◌∙◌}
use Rattle.geda_grammar.specs.Faults.{symbol_file}
use Rattle.project_files.specs.FileReads.{WasRead}
use Rattle.project_files.specs.steps.Passing.{IsRefusalOf}
use Rattle.project_files.proofs.Passing.{refusal}
use Rattle.project_files.proofs.file_reads.symbol_in.Goals as goal

pub returns-in_ok-clone-in-Err : goal.returns-in_ok-clone-in-Err
returns-in_ok-clone-in-Err c =
    refusal symbol_file WasRead c.args.name.now c.args.bytes.now c.in-Err.fault c.refused.result
    (λ kind line is. c.read_symbol.ensures.told kind line (c.in-Err.is ∙ ap Err is))
    (subst (λ (n : List ℕ). IsRefusalOf n c.in-Err.fault c.refused.result) c.in_ok-clone-in-Err.ensures.cases c.refused.ensures)
