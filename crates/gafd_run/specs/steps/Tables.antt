-- Sheets that are opened, on their way from a folder (own).
use Rattle.std.specs.Prelude.{◌≡◌, ℕ, List, Result}
use Rattle.std.specs.declared.option.Option.{Option}
use Rattle.std.specs.Result.{result_map_both}
use Rattle.edit_desk.specs.Desks.{DeskView}
use Rattle.edit_entries.specs.Entries.{EntryData}
use Rattle.geda_defs.specs.Contents.{Files}
use Rattle.project_files.specs.ProjectFiles.{OfSome}
use Rattle.gafd_run.specs.Answers.{OpensTo, opened_history}
use Rattle.gafd_run.specs.declared.fault.RunFault.{RunFault}

-- the history of a desk, or the fault
abbrev pub history_in : Result DeskView RunFault → Result (List EntryData) RunFault
history_in read = result_map_both (λ desk. desk.history) (λ fault. fault) read

-- what the bytes of a sheet come to, opened as a desk
abbrev pub OpensAs : List ℕ → List ℕ → Result DeskView RunFault → Type 0
OpensAs sheet bytes read = history_in read ≡ opened_history sheet bytes

-- what its file comes to
abbrev pub OpenedFrom : Option Files → List ℕ → Result DeskView RunFault → Type 0
OpenedFrom files sheet read = OfSome files (λ known. OpensTo sheet known (history_in read))
