-- How a run of the program on files ends (own).
use Rattle.std.specs.Prelude.{◌≡◌, ◌⊎◌, ℕ, List, Ok, Err, IsSome}
use Rattle.std.specs.declared.option.Option.{Option}
use Rattle.geda_defs.specs.Contents.{Files, KeepsFiles}
use Rattle.command_words.specs.declared.command.Command.{Command}
use Rattle.outside.specs.Counts.{Failed}
use Rattle.sinks.specs.Streams.{IsQuiet, Stream, WrotePrefix, WroteWhole}
use Rattle.gafd_run.specs.declared.fault.RunFault.TheVariants as faults
use Rattle.gafd_run.specs.Faults.{error_line, status_of}
use Rattle.gafd_run.specs.Answers.{AnswerData, Outcome, ComesTo, IsReading}
use Rattle.gafd_run.specs.Writing.{FolderRun, WroteFiles, WroteSome}

-- no file is written, or the command comes to an answer of which not all files are written
abbrev pub StopsWriting : FolderRun → Option Command → Type 0
StopsWriting folder command =
    KeepsFiles folder.old folder.new
    ⊎ ((answer : AnswerData) × ComesTo folder.old command (Ok answer)
    × WroteSome folder answer.files)

-- what is then written and out, and why the run ends with this outcome: the arguments come to it,
-- the folder or the output failed, or memory ran out
abbrev pub EndsWith : FolderRun → Option Command → Stream → Outcome → Type 0
EndsWith folder command out (Ok answer) =
    ComesTo folder.old command (Ok answer) × WroteFiles folder answer.files
    × WroteWhole out answer.text
EndsWith folder command out (Err faults.FolderFault) =
    IsSome command × Failed folder.faults × StopsWriting folder command × IsQuiet out
EndsWith folder command out (Err faults.OutputFault) =
    (answer : AnswerData) × ComesTo folder.old command (Ok answer)
    × WroteFiles folder answer.files × WrotePrefix out answer.text
EndsWith folder command out (Err faults.NoMemory) = StopsWriting folder command × IsQuiet out
EndsWith folder command out (Err fault) =
    ComesTo folder.old command (Err fault) × KeepsFiles folder.old folder.new × IsQuiet out

-- the whole line went to the stream, or the stream failed and a first part of it did
abbrev pub SaidLine : Stream → List ℕ → Type 0
SaidLine err line = WroteWhole err line ⊎ WrotePrefix err line

-- nothing is said beside an answer; each fault has its line
abbrev pub Said : Stream → Outcome → Type 0
Said err (Ok answer) = IsQuiet err
Said err (Err fault) = SaidLine err (error_line fault)

-- the status of an outcome
abbrev pub outcome_status : Outcome → ℕ
outcome_status (Ok answer) = answer.status
outcome_status (Err fault) = status_of fault

-- told files stay, where the arguments ask for a command that writes none
abbrev pub KeepsUnless : Option Command → Option Files → Option Files → Type 0
KeepsUnless command old new = IsReading command → KeepsFiles old new

-- a run on files ends with an outcome: it has its cause, its line and its status
pub record Ends (folder : FolderRun) (command : Option Command) (out err : Stream) (status : ℕ)
    : Type 0 where
  pub outcome : Outcome
  pub cause : EndsWith folder command out outcome
  pub said : Said err outcome
  pub status_is : status ≡ outcome_status outcome
