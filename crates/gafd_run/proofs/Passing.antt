-- How faults are passed on, from the files to the end of a run.
use Rattle.std.proofs.Common.{◌≡◌, ◌⊎◌, ℕ, ◌≤◌, List, Option, Result, Err, inl, inr, sym, subst}
use Rattle.std.specs.declared.option.Option.{Option}
use Rattle.geda_defs.specs.Causes.{HasCause}
use Rattle.geda_defs.specs.Contents.{Writes}
use Rattle.command_words.specs.declared.command.Command.{Command}
use Rattle.project_files.specs.declared.fault.FileFault.{FileFault}
use Rattle.project_files.specs.declared.fault.FileFault.TheVariants as file_faults
use Rattle.outside.specs.Counts.{Counts, counts}
use Rattle.project_files.specs.ProjectFiles.{IsAnswer, IsFolderAnswer}
use Rattle.project_files.proofs.Passing.{risen}
use Rattle.gafd_run.specs.declared.fault.RunFault.{RunFault}
use Rattle.gafd_run.specs.declared.fault.RunFault.TheVariants as faults
use Rattle.sinks.specs.declared.sink.SinkFault.{SinkFault}
use Rattle.sinks.specs.declared.sink.SinkFault.TheVariants as sink
use Rattle.sinks.specs.Streams.{IsQuiet, Stream, WrotePrefix}
use Rattle.sinks.proofs.Writing.{prefix_written}
use Rattle.gafd_run.specs.Answers.{AnswerData}
use Rattle.gafd_run.specs.Faults.{run_fault}
use Rattle.gafd_run.specs.Runs.{Ends, EndsWith, StopsWriting}
use Rattle.gafd_run.specs.Writing.{FolderRun, WroteFiles}
use Rattle.gafd_run.specs.steps.Passing.{AnswerOf, ComesOf, Delivers, Reports, TakesMemory}

-- what is come to, as an answer of a call that a folder is lent to
pub answer_from : {A : Type 0} (counts : Counts) (P Q : Result A RunFault → Type 0) (outcome : Result A RunFault) → ((r : Result A RunFault) → P r → Q r) → ComesOf P outcome → AnswerOf counts Q outcome
answer_from counts P Q (Err faults.FolderFault) f h = absurd h
answer_from counts P Q (Err faults.OutputFault) f h = h
answer_from counts P Q (Err faults.NoMemory) f h = tt
answer_from counts P Q outcome f h = f outcome h

-- a fault that is met in the bytes of a file, as that of the program
pub bytes_fault : {A B : Type 0} (P : Result A FileFault → Type 0) (Q : Result B RunFault → Type 0) (e : FileFault) → (P (Err e) → Q (Err (run_fault e))) → IsAnswer P (Err e) → ComesOf Q (Err (run_fault e))
bytes_fault P Q (file_faults.Missing file) f h = f h
bytes_fault P Q (file_faults.Refused file line kind) f h = f h
bytes_fault P Q file_faults.TooManyObjects f h = f h
bytes_fault P Q file_faults.ProjectFull f h = f h
bytes_fault P Q file_faults.FolderFault f h = h
bytes_fault P Q file_faults.NoMemory f h = tt

-- the same of a later call that a folder was lent to, as that of a whole
pub files_fault : {A B : Type 0} (before between now : ℕ) (P : Result A FileFault → Type 0) (Q : Result B RunFault → Type 0) (e : FileFault) → before ≤ between → (P (Err e) → Q (Err (run_fault e))) → IsFolderAnswer (counts between now) P (Err e) → AnswerOf (counts before now) Q (Err (run_fault e))
files_fault before between now P Q (file_faults.Missing file) later f h = f h
files_fault before between now P Q (file_faults.Refused file line kind) later f h = f h
files_fault before between now P Q file_faults.TooManyObjects later f h = f h
files_fault before between now P Q file_faults.ProjectFull later f h = f h
files_fault before between now P Q file_faults.FolderFault later f h = risen before between now later h
files_fault before between now P Q file_faults.NoMemory later f h = tt

-- what a write to the output that failed makes of a delivery
pub failed_write : (folder : FolderRun) (out : Stream) (answer : AnswerData) (piece : List ℕ) (e : SinkFault) → WroteFiles folder answer.files → piece ≡ answer.text → Writes out.old out.new piece (Err e) → HasCause {T = Unit {0}} out.faults.old out.faults.new (Err e) sink.Failed → Delivers folder out answer (Err faults.OutputFault)
failed_write folder out answer piece e wrote same writes has =
    (wrote, subst (λ (text : List ℕ). WrotePrefix out text) same (prefix_written out piece e writes has))

module _ (folder : FolderRun) (command : Option Command) (out err : Stream) (fault : RunFault) (status : ℕ) where
  -- before a line that takes memory, nothing was written and nothing went out
  is_quiet : (f : RunFault) → EndsWith folder command out (Err f) → TakesMemory f → StopsWriting folder command × IsQuiet out
  is_quiet (faults.Missing file) h named = (inl h.1, h.2)
  is_quiet (faults.Refused file line kind) h named = (inl h.1, h.2)
  is_quiet (faults.EditRefused file fault) h named = (inl h.1, h.2)
  is_quiet (faults.TableRefused file row kind) h named = (inl h.1, h.2)
  is_quiet (faults.BadToml file) h named = (inl h.1, h.2)
  is_quiet (faults.BadRows file) h named = (inl h.1, h.2)
  is_quiet (faults.NameClash refdes) h named = (inl h.1, h.2)
  is_quiet (faults.PinSet refdes) h named = (inl h.1, h.2)
  is_quiet (faults.TwoNets refdes) h named = (inl h.1, h.2)
  is_quiet (faults.NoValue refdes) h named = (inl h.1, h.2)
  is_quiet faults.TooManyObjects h named = absurd named
  is_quiet faults.ProjectFull h named = absurd named
  is_quiet faults.TooManyInstances h named = absurd named
  is_quiet faults.Usage h named = absurd named
  is_quiet faults.FolderFault h named = absurd named
  is_quiet faults.OutputFault h named = absurd named
  is_quiet faults.KeeperFault h named = absurd named
  is_quiet (faults.RowRefused serial) h named = (inl h.1, h.2)
  is_quiet (faults.RowDiffers serial) h named = (inl h.1, h.2)
  is_quiet faults.GateFault h named = absurd named
  is_quiet faults.NoPlace h named = absurd named
  is_quiet faults.NoMemory h named = h

  -- a run ends with the fault that is reported
  pub end_reported : EndsWith folder command out (Err fault) → Reports err fault status → Ends folder command out err status
  end_reported h r = record { outcome = Err r.reported; cause = go r.reported r.same; said = r.said; status_is = r.status_is }
    where
      go : (f : RunFault) → (f ≡ fault) ⊎ ((f ≡ faults.NoMemory) × TakesMemory fault) → EndsWith folder command out (Err f)
      go f (inl same) = subst (λ (g : RunFault). EndsWith folder command out (Err g)) (sym same) h
      go f (inr (same, named)) = subst (λ (g : RunFault). EndsWith folder command out (Err g)) (sym same) (is_quiet fault h named)
