-- Commands that write no file keep all files.
use Rattle.std.proofs.Common.{◌≡◌, List, [], Option, Some, None, Ok, Err, inl, inr, refl, subst}
use Rattle.std.specs.declared.option.Option.{Option}
use Rattle.std.specs.List.{slice_get}
use Rattle.attr_table.specs.SheetTables.{table_text}
use Rattle.edit_rules.specs.Histories.{project}
use Rattle.geda_defs.specs.Contents.{Files, KeepsFiles}
use Rattle.command_words.specs.declared.command.Command.{Command}
use Rattle.command_words.specs.declared.command.Command.TheVariants as commands
use Rattle.outside.specs.Counts.{Counts}
use Rattle.renum_files.specs.RenumberedFiles.{File}
use Rattle.sinks.specs.Streams.{Stream}
use Rattle.gafd_run.specs.declared.fault.RunFault.TheVariants as faults
use Rattle.gafd_run.specs.Answers.{AnswerData, ComesTo, IsReading, Outcome, checked_under, is_symbol_name, listed, tabled}
use Rattle.gafd_run.specs.Runs.{EndsWith, KeepsUnless, StopsWriting}
use Rattle.gafd_run.specs.Writing.{FolderRun, WroteFiles, folder_run}
use Rattle.gafd_run.proofs.AnswerLemmas.{as_done, as_one, of_circuit, of_opened, of_sheets, of_text}
use Rattle.gafd_run.proofs.WritingLemmas.{none_written}

abbrev WritesNone : AnswerData → Type 0
WritesNone answer = answer.files ≡ []

-- the answer of such a command writes no file
writes_none : (told : Option Files) (command : Option Command) → IsReading command → (answer : AnswerData) → ComesTo told command (Ok answer) → WritesNone answer
writes_none told None reading answer is = as_one WritesNone (Err faults.Usage) (Ok answer) is tt
writes_none told (Some (commands.Netlist form names)) reading answer come = of_sheets WritesNone (listed form) (λ p nets. refl) told names (Ok answer) come
writes_none told (Some (commands.Spice names)) reading answer come = of_circuit WritesNone (λ text. refl) told names (Ok answer) come
writes_none told (Some (commands.Drc matrix names)) reading answer (Ok levels, come, then) = of_sheets WritesNone (checked_under levels) (λ p nets. refl) told names (Ok answer) then
writes_none told (Some (commands.Drc matrix names)) reading answer (Err fault, come, is) = as_one WritesNone (Err fault) (Ok answer) is tt
writes_none told (Some (commands.Export name)) reading answer come = of_text WritesNone (is_symbol_name name) name (λ text. refl) told (Ok answer) come
writes_none told (Some (commands.Symcheck names)) reading answer (Ok files, come, is) = as_one WritesNone _ (Ok answer) is refl
writes_none told (Some (commands.Symcheck names)) reading answer (Err fault, come, is) = as_one WritesNone _ (Ok answer) is tt
writes_none told (Some (commands.Renumber names)) reading answer come = absurd reading
writes_none told (Some (commands.Table sheet)) reading answer come = of_opened WritesNone (λ h end. end ≡ tabled sheet h) (λ h. as_done WritesNone (table_text (project h) sheet) refl) told sheet (Ok answer) come
writes_none told (Some (commands.Fill sheet table)) reading answer come = absurd reading
writes_none told (Some (commands.Work start count)) reading answer (text, come, is) = as_one WritesNone _ (Ok answer) is refl
writes_none told (Some (commands.Serve address store access)) reading answer come = absurd come
writes_none told (Some (commands.Store store database)) reading answer come = absurd come

module _ (folder : FolderRun) (command : Option Command) (out : Stream) (reading : IsReading command) where
  wrote_none : (answer : AnswerData) → ComesTo folder.old command (Ok answer) → WroteFiles folder answer.files → KeepsFiles folder.old folder.new
  wrote_none answer come wrote = none_written folder.old folder.new (subst (WroteFiles folder) (writes_none folder.old command reading answer come) wrote)

  stops_none : StopsWriting folder command → KeepsFiles folder.old folder.new
  stops_none (inl kept) = kept
  stops_none (inr (answer, come, (n, next, there, but))) =
      absurd (let last = subst (λ (files : List File). slice_get files n ≡ Some next) (writes_none folder.old command reading answer come) there in cc)

  -- so all files stay
  pub all_kept : (outcome : Outcome) → EndsWith folder command out outcome → KeepsFiles folder.old folder.new
  all_kept (Ok answer) (come, wrote, written) = wrote_none answer come wrote
  all_kept (Err faults.FolderFault) (asked, failed, stops, quiet) = stops_none stops
  all_kept (Err faults.OutputFault) (answer, come, wrote, written) = wrote_none answer come wrote
  all_kept (Err faults.NoMemory) (stops, quiet) = stops_none stops
  all_kept (Err fault) h = h.1

pub kept_unless : (old new : Option Files) (faults : Counts) (command : Option Command) (out : Stream) (outcome : Outcome) → EndsWith (folder_run old new faults) command out outcome → KeepsUnless command old new
kept_unless old new faults command out outcome h = λ reading. all_kept (folder_run old new faults) command out reading outcome h
