-- Steps of the code; no public clause cites them.
-- What the commands on projects need before they answer (own).
use Rattle.std.specs.Prelude.{ℕ, List, Result}
use Rattle.std.specs.declared.option.Option.{Option}
use Rattle.geda_defs.specs.Contents.{Files}
use Rattle.pin_matrix.specs.declared.level.Level.{Level}
use Rattle.gafd_run.specs.declared.fault.RunFault.{RunFault}
use Rattle.project_files.specs.ProjectFiles.{OfSome}
use Rattle.gafd_run.specs.Answers.{MatrixComesTo}

-- what the matrix comes to that a folder has under a name
abbrev pub MatrixFrom : Option Files → Option (List ℕ) → Result (List Level) RunFault → Type 0
MatrixFrom files file read = OfSome files (λ known. MatrixComesTo known file read)
