-- What sheets come to, by what their project comes to.
use Rattle.std.proofs.Common.{ℕ, List, Option, Some, None, Ok, Err, refl}
use Rattle.std.specs.declared.option.Option.{Option}
use Rattle.geda_defs.specs.Contents.{Files}
use Rattle.project_model.specs.Projects.{ProjectData}
use Rattle.project_files.specs.declared.fault.FileFault.{FileFault}
use Rattle.project_files.specs.ProjectFiles.{GathersFrom, OfFiles}
use Rattle.gafd_run.specs.Answers.{Outcome, SheetsTo}
use Rattle.gafd_run.specs.Faults.{run_fault}

module _ (Comes : ProjectData → Outcome → Type 0) where
  -- what a project comes to its sheets come to
  pub sheets_come : (files : Option Files) (names : List (List ℕ)) (project : ProjectData) (outcome : Outcome) → GathersFrom files names (Ok project) → Comes project outcome → OfFiles files (λ known. SheetsTo Comes known names outcome)
  sheets_come None names project outcome (known, come) of = (known, (Ok project, come, of))
  sheets_come (Some known) names project outcome come of = (Ok project, come, of)

  -- so it is with a fault
  pub sheets_fail : (files : Option Files) (names : List (List ℕ)) (fault : FileFault) → GathersFrom files names (Err fault) → OfFiles files (λ known. SheetsTo Comes known names (Err (run_fault fault)))
  sheets_fail None names fault (known, come) = (known, (Err fault, come, refl))
  sheets_fail (Some known) names fault come = (Err fault, come, refl)
