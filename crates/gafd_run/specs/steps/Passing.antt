-- Steps of the code; no public clause cites them.
-- How faults are passed on from one function to the next (own).
use Rattle.std.specs.Prelude.{◌≡◌, ◌⊎◌, ℕ, Result, Ok, Err, Some, ⊤}
use Rattle.std.specs.declared.option.Option.{Option}
use Rattle.geda_defs.specs.Contents.{Files}
use Rattle.command_words.specs.declared.command.Command.{Command}
use Rattle.command_words.specs.declared.command.Command.TheVariants.{Serve, Store}
use Rattle.gafd_run.specs.declared.fault.RunFault.{RunFault}
use Rattle.gafd_run.specs.declared.fault.RunFault.TheVariants as faults
use Rattle.hierarchy.specs.declared.fault.ElabFault.{ElabFault}
use Rattle.hierarchy.specs.declared.fault.ElabFault.TheVariants as elaboration
use Rattle.option_words.specs.declared.fault.WordFault.{WordFault}
use Rattle.option_words.specs.declared.fault.WordFault.TheVariants as words
use Rattle.project_files.specs.declared.folder.FolderFault.{FolderFault}
use Rattle.project_files.specs.declared.folder.FolderFault.TheVariants as folder
use Rattle.gafd_run.specs.Answers.{AnswerData, Outcome, ComesTo}
use Rattle.gafd_run.specs.Writing.{FolderRun, WroteFiles, WroteSome}
use Rattle.outside.specs.Counts.{Counts, Failed}
use Rattle.sinks.specs.Streams.{IsQuiet, Stream, WrotePrefix, WroteWhole}
use Rattle.gafd_run.specs.Runs.{SaidLine}
use Rattle.gafd_run.specs.Faults.{error_line, status_of}

-- what a fault of the folder becomes
abbrev pub FromFolder : FolderFault → RunFault → Type 0
FromFolder folder.Failed e = e ≡ faults.FolderFault
FromFolder folder.NoMemory e = e ≡ faults.NoMemory

-- what a fault of the words becomes
abbrev pub FromWords : WordFault → RunFault → Type 0
FromWords words.Usage e = e ≡ faults.Usage
FromWords words.NoMemory e = e ≡ faults.NoMemory

-- what a fault of the hierarchy becomes
abbrev pub FromElaboration : ElabFault → RunFault → Type 0
FromElaboration elaboration.TooManyInstances e = e ≡ faults.TooManyInstances
FromElaboration elaboration.NoMemory e = e ≡ faults.NoMemory

-- what is come to, or want of memory
abbrev pub ComesOf : {A : Type 0} → (Result A RunFault → Type 0) → Result A RunFault → Type 0
ComesOf Comes (Err faults.NoMemory) = ⊤
ComesOf Comes (Err faults.FolderFault) = ⊥
ComesOf Comes (Err faults.OutputFault) = ⊥
ComesOf Comes outcome = Comes outcome

-- or a fault of the folder
abbrev pub AnswerOf : {A : Type 0} →
    Counts → (Result A RunFault → Type 0) → Result A RunFault → Type 0
AnswerOf counts Comes (Err faults.FolderFault) = Failed counts
AnswerOf counts Comes outcome = ComesOf Comes outcome

-- what is written and out of an answer
abbrev pub Delivers : FolderRun → Stream → AnswerData → Result (Unit {0}) RunFault → Type 0
Delivers folder out answer (Ok _) = WroteFiles folder answer.files × WroteWhole out answer.text
Delivers folder out answer (Err faults.FolderFault) =
    Failed folder.faults × WroteSome folder answer.files × IsQuiet out
Delivers folder out answer (Err faults.OutputFault) =
    WroteFiles folder answer.files × WrotePrefix out answer.text
Delivers folder out answer (Err faults.NoMemory) = WroteSome folder answer.files × IsQuiet out
Delivers folder out answer (Err fault) = ⊥

-- the command is done on files: it does not serve or copy a store
abbrev pub IsOnFiles : Command → Type 0
IsOnFiles (Serve address store access) = ⊥
IsOnFiles (Store store database) = ⊥
IsOnFiles other = ⊤

-- what a command comes to over the files that a folder tells
abbrev pub Over : Option Files → Command → Outcome → Type 0
Over files command outcome = ComesTo files (Some command) outcome

-- the line of the fault takes memory: it names a file, a package or a row
abbrev pub TakesMemory : RunFault → Type 0
TakesMemory (faults.Missing file) = ⊤
TakesMemory (faults.Refused file line kind) = ⊤
TakesMemory (faults.EditRefused file fault) = ⊤
TakesMemory (faults.TableRefused file row kind) = ⊤
TakesMemory (faults.BadToml file) = ⊤
TakesMemory (faults.BadRows file) = ⊤
TakesMemory (faults.NameClash refdes) = ⊤
TakesMemory (faults.PinSet refdes) = ⊤
TakesMemory (faults.TwoNets refdes) = ⊤
TakesMemory (faults.NoValue refdes) = ⊤
TakesMemory (faults.RowRefused serial) = ⊤
TakesMemory (faults.RowDiffers serial) = ⊤
TakesMemory other = ⊥

-- a fault is reported as it is, or as want of memory where its line takes memory
pub record Reports (err : Stream) (fault : RunFault) (status : ℕ) : Type 0 where
  pub reported : RunFault
  pub same : (reported ≡ fault) ⊎ ((reported ≡ faults.NoMemory) × TakesMemory fault)
  pub said : SaidLine err (error_line reported)
  pub status_is : status ≡ status_of reported
