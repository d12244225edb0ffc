use Rattle.std.proofs.Common.{◌≡◌, ℕ, ◌-◌, ◌^◌, List, min, ap, ◌∙◌, arith}
use Rattle.std.specs.List.{sum_by}
use Rattle.std.proofs.lemmas.Result.{err_from_is_err_and}
use Rattle.project_files.specs.Gathering.{AskedSymbol, Gathered}
use Rattle.project_files.specs.ProjectFiles.{GathersFrom}
use Rattle.project_files.specs.steps.Counting.{asked_bytes}
use Rattle.project_files.specs.steps.Standing.{ReadsFrom}
use Rattle.project_files.proofs.ProjectLemmas.{gathers_no_more}
use Rattle.project_files.proofs.MeasureLemmas.{opened_leaves_ids, opened_symbols}
use Rattle.project_files.proofs.Passing.{fault_later}
use Rattle.project_files.proofs.project.measured_project_of.Goals as goal

pub returns-in_err-gathered-clause-project : goal.returns-in_err-gathered-clause-project
returns-in_err-gathered-clause-project g c =
    let files = g.F.Folder.files c.args.folder.now in
    let names = c.args.names.now in
    let fault = err_from_is_err_and c.from_residual.result c.from_residual.ensures.1 in
    let h = fault_later (g.F.Folder.faults c.args.folder.now) _ (g.F.Folder.faults c.gather.new.folder) (ReadsFrom files names) (GathersFrom files names) c.in_err-gathered.field-0.0 (omega arith) (gathers_no_more files names c.in_err-gathered.field-0.0) c.in_err-gathered.ensures.read in
    rw (fault.1, fault.2) h

pub returns-in-Ok-clause-symbols : goal.returns-in-Ok-clause-symbols
returns-in-Ok-clause-symbols g c =
    let gathered = c.in_ok-gathered.gathered in
    let read : c.deref.result.now ≡ gathered.symbols = c.deref.ensures.value ∙ ap (λ (g : Gathered). g.symbols) c.gathered.view_is in
    c.bytes_of_symbols-symbol_bytes.ensures
    ∙ ap (λ (asked : List AskedSymbol). min (sum_by asked_bytes asked) (2 ^ 64 - 1)) read
    ∙ ap (λ (n : ℕ). min n (2 ^ 64 - 1)) (opened_symbols gathered c.in-Ok.project.contents c.in_ok-gathered.ensures.whole c.in-Ok.ensures)

pub returns-in-Ok-clause-ids : goal.returns-in-Ok-clause-ids
returns-in-Ok-clause-ids g c = opened_leaves_ids c.in_ok-gathered.gathered c.in-Ok.project.contents c.in-Ok.ensures
