-- How the whole program ends (own).
use Rattle.std.specs.Prelude.{◌≡◌, ◌⊎◌, ℕ, List, Result, Ok, Err, Some, ⊤}
use Rattle.std.specs.declared.option.Option.{Option}
use Rattle.edit_entries.specs.Entries.{EntryData}
use Rattle.geda_defs.specs.Contents.{Files, KeepsFiles}
use Rattle.command_words.specs.declared.command.Command.{Command}
use Rattle.command_words.specs.declared.command.Command.TheVariants.{Drc, Serve, Store, Symcheck}
use Rattle.outside.specs.Counts.{Failed}
use Rattle.sinks.specs.Streams.{IsQuiet, Stream}
use Rattle.hall_server.specs.Serving.{AreRefusedAt, Outside, ServesTo}
use Rattle.hall_server.specs.declared.fault.ServeFault.{ServeFault}
use Rattle.store_copy.specs.Storing.{DiffersAt, Keepers, RefusesRow, StoresTo}
use Rattle.store_copy.specs.declared.storing_fault.StoringFault.{StoringFault}
use Rattle.gafd_run.specs.declared.fault.RunFault.{RunFault}
use Rattle.gafd_run.specs.Answers.{ComesTo}
use Rattle.gafd_run.specs.Faults.{error_line, serve_fault, status_of, storing_fault}
use Rattle.gafd_run.specs.Runs.{Ends, SaidLine}
use Rattle.gafd_run.specs.Writing.{FolderRun}

-- what a serving comes to: it is done, or a fault
abbrev pub Served : Type 0
Served = Result (Unit {0}) ServeFault

-- nothing is said of a serving that is done; each fault has its line
abbrev pub SaidServed : Stream → Served → Type 0
SaidServed err (Ok _) = IsQuiet err
SaidServed err (Err fault) = SaidLine err (error_line (serve_fault fault))

-- the status with which a serving ends
abbrev pub served_status : Served → ℕ
served_status (Ok _) = 0
served_status (Err fault) = status_of (serve_fault fault)

-- a serving ends: it has its cause, its line and its status
pub record ServingEnds (outside : Outside) (out err : Stream) (status : ℕ) : Type 0 where
  pub served : Served
  pub cause : ServesTo outside out served
  pub said : SaidServed err served
  pub status_is : status ≡ served_status served

-- what a copying comes to: it is done, or a fault
abbrev pub Stored : Type 0
Stored = Result (Unit {0}) StoringFault

-- nothing is said of a copying that is done; each fault has its line
abbrev pub SaidStored : Stream → Stored → Type 0
SaidStored err (Ok _) = IsQuiet err
SaidStored err (Err fault) = SaidLine err (error_line (storing_fault fault))

-- the status with which a copying ends
abbrev pub stored_status : Stored → ℕ
stored_status (Ok _) = 0
stored_status (Err fault) = status_of (storing_fault fault)

-- a copying ends: it has its cause, its line and its status
pub record StoringEnds (keepers : Keepers) (out err : Stream) (status : ℕ) : Type 0 where
  pub stored : Stored
  pub cause : StoresTo keepers out stored
  pub said : SaidStored err stored
  pub status_is : status ≡ stored_status stored

-- the program ends as a serving or as a copying, by which told files stay, or as a run on files
abbrev pub RunEnds :
    Outside → Keepers → FolderRun → Option Command → Stream → Stream → ℕ → Type 0
RunEnds outside keepers folder (Some (Serve address store access)) out err status =
    ServingEnds outside out err status × KeepsFiles folder.old folder.new
RunEnds outside keepers folder (Some (Store store database)) out err status =
    StoringEnds keepers out err status × KeepsFiles folder.old folder.new
RunEnds outside keepers folder command out err status = Ends folder command out err status

-- the arguments come to a fault over the files: a file or the project is refused, a package keeps
-- the net list from being a circuit, or the arguments ask for no command
abbrev pub ComesToFault : Option Files → Option Command → Type 0
ComesToFault files command = (fault : RunFault) × ComesTo files command (Err fault)

-- the command checks something
abbrev pub IsCheck : Option Command → Type 0
IsCheck (Some (Drc matrix names)) = ⊤
IsCheck (Some (Symcheck names)) = ⊤
IsCheck other = ⊥

-- the command serves
abbrev pub IsServing : Option Command → Type 0
IsServing (Some (Serve address store access)) = ⊤
IsServing other = ⊥

-- the command copies a store
abbrev pub IsStoring : Option Command → Type 0
IsStoring (Some (Store store database)) = ⊤
IsStoring other = ⊥

-- the rows of the database stay, but for a copying of a store into it
abbrev pub KeepsUnlessStoring :
    Option Command → Option (List EntryData) → Option (List EntryData) → Type 0
KeepsUnlessStoring (Some (Store store database)) old new = ⊤
KeepsUnlessStoring other old new = new ≡ old

-- a row of the database differs from those of the store that is copied
abbrev pub ComesToDifference : Keepers → Option Command → Type 0
ComesToDifference keepers command = IsStoring command × ((serial : ℕ) × DiffersAt keepers serial)

-- what lies outside did not fail: the folder, the output, the gate, the places and the keepers that
-- the command uses
pub record NothingFailed (outside : Outside) (keepers : Keepers) (folder : FolderRun)
    (command : Option Command) (out : Stream) : Type 0 where
  pub folder_well : ¬ (Failed folder.faults)
  pub out_well : ¬ (Failed out.faults)
  pub gate_well : ¬ (Failed outside.gate)
  pub places_well : ¬ (Failed outside.places)
  pub keeper_well : IsServing command → outside.never_fails
  pub keepers_well : IsStoring command → keepers.store_steady × keepers.database_steady

-- the statuses that are left: 0, 7 of a check, 6 of a serving or a copying over told rows that are
-- not accepted, and 71
abbrev pub IsLeft : Option Command → Option (List EntryData) → Keepers → ℕ → Type 0
IsLeft command rows keepers status =
    (status ≡ 0) ⊎ ((status ≡ 7) × IsCheck command)
    ⊎ ((status ≡ 6) × IsServing command × ((serial : ℕ) × AreRefusedAt rows serial))
    ⊎ ((status ≡ 6) × IsStoring command × ((serial : ℕ) × RefusesRow keepers serial))
    ⊎ (status ≡ 71)

-- where the arguments come to no fault and no row differs, and nothing outside failed, the program
-- ends well, or finds a row that is not accepted, or wants memory
abbrev pub Completes :
    Outside → Keepers → FolderRun → Option Command → Stream → ℕ → Type 0
Completes outside keepers folder command out status =
    ¬ (ComesToFault folder.old command) → ¬ (ComesToDifference keepers command)
    → NothingFailed outside keepers folder command out
    → IsLeft command outside.rows keepers status
