-- What numbering comes to, with the faults of the program.
use Rattle.std.proofs.Common.{◌≡◌, Ok, Err, sym, ap, ◌∙◌}
use Rattle.std.specs.Result.{result_map_both}
use Rattle.project_model.specs.Projects.{ProjectData}
use Rattle.renum_files.specs.RenumberedFiles.{GivesRenumbered, RenumberedData, renumbered_files}
use Rattle.renum_files.specs.declared.fault.RenumberFault.{RenumberFault}
use Rattle.renum_files.specs.declared.fault.RenumberFault.TheVariants as renumber_faults
use Rattle.gafd_run.specs.Answers.{AnswerData, RenumbersTo, written_down}
use Rattle.gafd_run.specs.Faults.{renumber_fault}
use Rattle.gafd_run.specs.steps.Passing.{ComesOf}

-- all components have numbers
pub numbering_done : (p : ProjectData) (r : RenumberedData) (answer : AnswerData) → renumbered_files p ≡ Ok r → answer ≡ written_down r → RenumbersTo p (Ok answer)
numbering_done p r answer is made = ap Ok made ∙ sym (ap (result_map_both written_down renumber_fault) is)

-- or not
pub numbering_failed : (p : ProjectData) (e : RenumberFault) → GivesRenumbered (λ (r : RenumberedData). r) (Err e) (renumbered_files p) → ComesOf (RenumbersTo p) (Err (renumber_fault e))
numbering_failed p renumber_faults.NoMemory is = tt
numbering_failed p renumber_faults.ProjectFull is = sym (ap (result_map_both written_down renumber_fault) is)
