-- The project of what is gathered.
use Rattle.std.proofs.Common.{ℕ, List, Option, Some, None, Ok, Err, refl}
use Rattle.std.specs.declared.option.Option.{Option}
use Rattle.geda_defs.specs.Contents.{Files}
use Rattle.project_files.specs.declared.fault.FileFault.{FileFault}
use Rattle.project_files.specs.Gathering.{Gathered}
use Rattle.project_files.specs.Opening.{gathered_project}
use Rattle.project_files.specs.ProjectFiles.{GathersFrom}
use Rattle.project_files.specs.steps.Standing.{ReadsFrom}

-- all is gathered, and comes to a project or to a fault
pub gathers : (files : Option Files) (names : List (List ℕ)) (g : Gathered) → ReadsFrom files names (Ok g) → GathersFrom files names (gathered_project g)
gathers None names g (known, (count, h)) = (known, (count, (Ok g, h, refl)))
gathers (Some known) names g (count, h) = (count, (Ok g, h, refl))

-- a fault is met before
pub gathers_no_more : (files : Option Files) (names : List (List ℕ)) (fault : FileFault) → ReadsFrom files names (Err fault) → GathersFrom files names (Err fault)
gathers_no_more None names fault (known, (count, h)) = (known, (count, (Err fault, h, refl)))
gathers_no_more (Some known) names fault (count, h) = (count, (Err fault, h, refl))
