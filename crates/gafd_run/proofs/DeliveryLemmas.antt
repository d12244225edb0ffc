-- What is written and out of an answer, as the end of a run.
use Rattle.std.proofs.Common.{◌≡◌, ℕ, ◌≤◌, Option, Some, Ok, Err, IsSome, inl, inr, refl, sym, subst}
use Rattle.geda_defs.specs.Causes.{HasCause}
use Rattle.geda_defs.specs.Contents.{Files, KeepsFiles}
use Rattle.command_words.specs.declared.command.Command.{Command}
use Rattle.outside.specs.Counts.{counts}
use Rattle.project_files.specs.declared.folder.FolderFault.{FolderFault}
use Rattle.project_files.specs.declared.folder.FolderFault.TheVariants as folder
use Rattle.project_files.proofs.Passing.{risen}
use Rattle.gafd_run.specs.declared.fault.RunFault.{RunFault}
use Rattle.gafd_run.specs.declared.fault.RunFault.TheVariants as faults
use Rattle.gafd_run.specs.Answers.{AnswerData, ComesTo}
use Rattle.sinks.specs.Streams.{IsQuiet, Stream}
use Rattle.gafd_run.specs.Runs.{EndsWith}
use Rattle.gafd_run.specs.Writing.{FolderRun, WroteSome, folder_run}
use Rattle.gafd_run.specs.steps.Passing.{AnswerOf, Delivers, FromFolder, Over}
use Rattle.gafd_run.proofs.WritingLemmas.{but_after, has_after}

-- a fault of the folder while files were written
pub stopped : (run : FolderRun) (out : Stream) (answer : AnswerData) (e : FolderFault) (f : RunFault) → FromFolder e f → WroteSome run answer.files → HasCause {T = Unit {0}} run.faults.old run.faults.new (Err e) folder.Failed → IsQuiet out → Delivers run out answer (Err f)
stopped run out answer folder.Failed f from wrote has quiet = subst (λ (g : RunFault). Delivers run out answer (Err g)) (sym from) (has.cause refl, wrote, quiet)
stopped run out answer folder.NoMemory f from wrote has quiet = subst (λ (g : RunFault). Delivers run out answer (Err g)) (sym from) (wrote, quiet)

module _ (old mid new : Option Files) (before between now : ℕ) (asked : Option Command) (command : Command) (out : Stream) (answer : AnswerData)
    (is : asked ≡ Some command) (comes : ComesTo old (Some command) (Ok answer)) (kept : KeepsFiles old mid) (later : before ≤ between) where
  abbrev all : FolderRun
  all = folder_run old new (counts before now)

  abbrev part : FolderRun
  part = folder_run mid new (counts between now)

  asks : ComesTo old asked (Ok answer)
  asks = subst (λ (c : Option Command). ComesTo old c (Ok answer)) (sym is) comes

  some_wrote : WroteSome part answer.files → WroteSome all answer.files
  some_wrote (n, next, there, but) = (n, next, there, but_after next.0 old mid new _ kept but)

  -- all is written and out
  pub delivered : Delivers part out answer (Ok tt) → EndsWith all asked out (Ok answer)
  delivered d = (asks, has_after old mid new answer.files kept d.0, d.1)

  -- or not
  pub delivery_failed : (e : RunFault) → Delivers part out answer (Err e) → EndsWith all asked out (Err e)
  delivery_failed faults.FolderFault d = (subst (λ (c : Option Command). IsSome c) (sym is) refl, risen before between now later d.0, inr (answer, asks, some_wrote d.1), d.2)
  delivery_failed faults.OutputFault d = (answer, asks, has_after old mid new answer.files kept d.0, d.1)
  delivery_failed faults.NoMemory d = (inr (answer, asks, some_wrote d.0), d.1)
  delivery_failed e d = absurd d

-- a fault of what was asked for, before anything is written
pub answer_failed : (folder : FolderRun) (asked : Option Command) (command : Command) (out : Stream) (e : RunFault) → asked ≡ Some command → KeepsFiles folder.old folder.new → IsQuiet out → AnswerOf folder.faults (Over folder.old command) (Err e) → EndsWith folder asked out (Err e)
answer_failed folder asked command out faults.FolderFault is kept quiet h = (subst (λ (c : Option Command). IsSome c) (sym is) refl, h, inl kept, quiet)
answer_failed folder asked command out faults.OutputFault is kept quiet h = absurd h
answer_failed folder asked command out faults.NoMemory is kept quiet h = (inl kept, quiet)
answer_failed folder asked command out e is kept quiet h = (subst (λ (c : Option Command). ComesTo folder.old c (Err e)) (sym is) h, kept, quiet)
