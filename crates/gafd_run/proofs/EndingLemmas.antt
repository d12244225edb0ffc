-- How the whole program ends, and which statuses are left where nothing failed.
use Rattle.std.proofs.Common.{◌≡◌, ◌⊎◌, ℕ, List, Bool, true, false, Option, Some, None, Result, Ok, Err, inl, inr, refl, sym, subst, ap, ◌∙◌}
use Rattle.std.specs.Prelude.{if◌then◌else◌}
use Rattle.std.specs.declared.option.Option.{Option}
use Rattle.std.specs.Result.{result_map_both}
use Rattle.attr_table.specs.SheetTables.{table_text}
use Rattle.edit_entries.specs.Entries.{EntryData}
use Rattle.edit_rules.specs.Histories.{project}
use Rattle.geda_defs.specs.Contents.{Files, KeepsFiles}
use Rattle.command_words.specs.declared.command.Command.{Command}
use Rattle.command_words.specs.declared.command.Command.TheVariants as commands
use Rattle.option_words.specs.Reads.{Fails}
use Rattle.option_words.specs.declared.fault.WordFault.{WordFault}
use Rattle.option_words.specs.declared.fault.WordFault.TheVariants as words
use Rattle.renum_files.specs.RenumberedFiles.{RenumberedData, renumbered_files}
use Rattle.renum_files.specs.declared.fault.RenumberFault.{RenumberFault}
use Rattle.sinks.specs.Streams.{IsQuiet, Stream}
use Rattle.hall_server.specs.Serving.{Outside, ServesTo}
use Rattle.hall_server.specs.declared.fault.ServeFault.TheVariants as serve_faults
use Rattle.store_copy.specs.Storing.{Keepers, PutsNone, StoresTo}
use Rattle.store_copy.specs.declared.storing_fault.StoringFault.TheVariants as storing_faults
use Rattle.gafd_run.specs.declared.fault.RunFault.{RunFault}
use Rattle.gafd_run.specs.declared.fault.RunFault.TheVariants as faults
use Rattle.gafd_run.specs.Answers.{AnswerData, ComesTo, FillsTo, Outcome, RenumbersTo, SheetsTo, checked_under, is_symbol_name, listed, symbols_reported, tabled, written_down}
use Rattle.gafd_run.specs.Endings.{Completes, IsCheck, IsLeft, IsServing, IsStoring, KeepsUnlessStoring, RunEnds, Served, ServingEnds, Stored, StoringEnds, served_status, stored_status}
use Rattle.gafd_run.specs.Faults.{error_line, renumber_fault, status_of}
use Rattle.gafd_run.specs.Runs.{Ends, EndsWith, SaidLine, outcome_status}
use Rattle.gafd_run.specs.Writing.{FolderRun}
use Rattle.gafd_run.specs.steps.Passing.{FromWords, IsOnFiles, Reports, TakesMemory}
use Rattle.gafd_run.proofs.AnswerLemmas.{OfAnswer, as_done, as_one, by_sheets, of_circuit, of_files, of_filled, of_opened, of_sheets, of_text}

-- the answer of a command has status 0, or 7 where it checks
abbrev IsGood : Option Command → AnswerData → Type 0
IsGood command answer = (answer.status ≡ 0) ⊎ ((answer.status ≡ 7) × IsCheck command)

of_check : (command : Option Command) (answer : AnswerData) (b : Bool) → IsCheck command → answer.status ≡ (if b then 7 else 0) → IsGood command answer
of_check command answer true check is = inr (is, check)
of_check command answer false check is = inl is

by_numbers : (command : Option Command) (r : Result RenumberedData RenumberFault) (outcome : Outcome) → outcome ≡ result_map_both written_down renumber_fault r → OfAnswer (IsGood command) outcome
by_numbers command (Ok r) outcome is = as_one (IsGood command) (Ok (written_down r)) outcome is (inl refl)
by_numbers command (Err fault) outcome is = as_one (IsGood command) (Err (renumber_fault fault)) outcome is tt

good : (told : Option Files) (command : Option Command) (answer : AnswerData) → ComesTo told command (Ok answer) → IsGood command answer
good told None answer is = as_one (IsGood None) (Err faults.Usage) (Ok answer) is tt
good told (Some (commands.Netlist form names)) answer come = of_sheets (IsGood (Some (commands.Netlist form names))) (listed form) (λ p nets. inl refl) told names (Ok answer) come
good told (Some (commands.Spice names)) answer come = of_circuit (IsGood (Some (commands.Spice names))) (λ text. inl refl) told names (Ok answer) come
good told (Some (commands.Drc matrix names)) answer (Ok levels, come, checks) =
    of_sheets (IsGood (Some (commands.Drc matrix names))) (checked_under levels) (λ p nets. of_check (Some (commands.Drc matrix names)) (checked_under levels p nets) _ tt refl) told names (Ok answer) checks
good told (Some (commands.Drc matrix names)) answer (Err fault, come, is) = as_one (IsGood (Some (commands.Drc matrix names))) (Err fault) (Ok answer) is tt
good told (Some (commands.Export name)) answer come = of_text (IsGood (Some (commands.Export name))) (is_symbol_name name) name (λ text. inl refl) told (Ok answer) come
good told (Some (commands.Symcheck names)) answer (Ok files, come, is) = as_one (IsGood (Some (commands.Symcheck names))) (Ok (symbols_reported files)) (Ok answer) is (of_check (Some (commands.Symcheck names)) (symbols_reported files) _ tt refl)
good told (Some (commands.Symcheck names)) answer (Err fault, come, is) = as_one (IsGood (Some (commands.Symcheck names))) _ (Ok answer) is tt
good told (Some (commands.Renumber names)) answer come =
    of_files (IsGood (Some (commands.Renumber names))) told (λ known end. SheetsTo RenumbersTo known names end)
    (λ files. by_sheets (IsGood (Some (commands.Renumber names))) RenumbersTo (λ project. by_numbers (Some (commands.Renumber names)) (renumbered_files project)) files names) (Ok answer) come
good told (Some (commands.Table sheet)) answer come = of_opened (IsGood (Some (commands.Table sheet))) (λ h end. end ≡ tabled sheet h) (λ h. as_done (IsGood (Some (commands.Table sheet))) (table_text (project h) sheet) (inl refl)) told sheet (Ok answer) come
good told (Some (commands.Fill sheet table)) answer come =
    of_opened (IsGood (Some (commands.Fill sheet table))) (FillsTo told sheet table) (λ h. of_filled (IsGood (Some (commands.Fill sheet table))) (λ f. inl refl) told sheet table h) told sheet (Ok answer) come
good told (Some (commands.Work start count)) answer (text, come, is) = as_one (IsGood (Some (commands.Work start count))) _ (Ok answer) is (inl refl)
good told (Some (commands.Serve address store access)) answer come = absurd come
good told (Some (commands.Store store database)) answer come = absurd come

module _ (outside : Outside) (keepers : Keepers) (folder : FolderRun) (command : Option Command) (out err : Stream) (status : ℕ) where
  -- a good answer leaves such a status
  left : (answer : AnswerData) → status ≡ answer.status → IsGood command answer → IsLeft command outside.rows keepers status
  left answer is (inl well) = inl (is ∙ well)
  left answer is (inr (found, check)) = inr (inl (is ∙ found, check))

  -- of runs on files
  files_left : Ends folder command out err status → Completes outside keepers folder command out status
  files_left ends none same well = go ends.outcome ends.cause ends.status_is
    where
      want : status ≡ 71 → IsLeft command outside.rows keepers status
      want is = inr (inr (inr (inr is)))

      go : (outcome : Outcome) → EndsWith folder command out outcome → status ≡ outcome_status outcome → IsLeft command outside.rows keepers status
      go (Ok answer) (come, wrote, written) is = left answer is (good folder.old command answer come)
      go (Err faults.FolderFault) (asked, failed, stops, quiet) is = absurd (well.folder_well failed)
      go (Err faults.OutputFault) (answer, come, wrote, written) is = absurd (well.out_well written.0)
      go (Err faults.NoMemory) h is = want is
      go (Err fault) h is = absurd (none (fault, h.0))

  -- of servings
  serving_left : IsServing command → ServingEnds outside out err status → Completes outside keepers folder command out status
  serving_left serves ends none same well = go ends.served ends.cause ends.status_is
    where
      go : (served : Served) → ServesTo outside out served → status ≡ served_status served → IsLeft command outside.rows keepers status
      go (Ok _) h is = inl is
      go (Err serve_faults.GateFault) h is = absurd (well.gate_well h.0)
      go (Err serve_faults.KeeperFault) h is = absurd (h.0 (well.keeper_well serves))
      go (Err (serve_faults.RowRefused serial)) h is = inr (inr (inl (is, serves, (serial, h.0))))
      go (Err serve_faults.NoPlace) h is = absurd (well.places_well h.0)
      go (Err serve_faults.OutputFault) h is = absurd (well.out_well h.1.0)
      go (Err serve_faults.NoMemory) h is = inr (inr (inr (inr is)))

  -- of copyings
  storing_left : IsStoring command → StoringEnds keepers out err status → Completes outside keepers folder command out status
  storing_left stores ends none same well = go ends.stored ends.cause ends.status_is
    where
      go : (stored : Stored) → StoresTo keepers out stored → status ≡ stored_status stored → IsLeft command outside.rows keepers status
      go (Ok _) h is = inl is
      go (Err storing_faults.KeeperFault) h is = absurd (h.0 (well.keepers_well stores))
      go (Err (storing_faults.RowRefused serial)) h is = inr (inr (inr (inl (is, stores, (serial, h.0)))))
      go (Err (storing_faults.RowDiffers serial)) h is = absurd (same (stores, (serial, h.0)))
      go (Err storing_faults.OutputFault) h is = absurd (well.out_well h.2.0)
      go (Err storing_faults.NoMemory) h is = inr (inr (inr (inr is)))

-- so of the whole program
pub all_left : (outside : Outside) (keepers : Keepers) (folder : FolderRun) (command : Option Command) (out err : Stream) (status : ℕ) → RunEnds outside keepers folder command out err status → Completes outside keepers folder command out status
all_left outside keepers folder (Some (commands.Store store database)) out err status ends = storing_left outside keepers folder (Some (commands.Store store database)) out err status tt ends.0
all_left outside keepers folder (Some (commands.Serve address store access)) out err status ends = serving_left outside keepers folder (Some (commands.Serve address store access)) out err status tt ends.0
all_left outside keepers folder command out err status ends = files_left outside keepers folder command out err status ends

-- a run on files is one of the program
pub on_files : (outside : Outside) (keepers : Keepers) (folder : FolderRun) (command : Command) (out err : Stream) (status : ℕ) → IsOnFiles command → Ends folder (Some command) out err status → RunEnds outside keepers folder (Some command) out err status
on_files outside keepers folder (commands.Serve address store access) out err status on ends = absurd on
on_files outside keepers folder (commands.Store store database) out err status on ends = absurd on
on_files outside keepers folder command out err status on ends = ends

-- files that stay
kept_same : (files : Option Files) → KeepsFiles files files
kept_same None = tt
kept_same (Some files) = λ name. refl

-- the rows of the database, where they stay
pub rows_stay : (command : Option Command) (rows : Option (List EntryData))
    → KeepsUnlessStoring command rows rows
rows_stay (Some (commands.Store store database)) rows = tt
rows_stay command rows = refl

-- the words were not read
pub words_failed : (outside : Outside) (keepers : Keepers) (folder : FolderRun)
    (command : Option Command) (out err : Stream) (status : ℕ) (fault : WordFault) (e : RunFault)
    → FromWords fault e → Fails fault command → folder.new ≡ folder.old → PutsNone keepers
    → IsQuiet out → Reports err e status
    → RunEnds outside keepers folder command out err status
words_failed outside keepers folder command out err status words.Usage e from none same_files same_rows quiet r = subst (λ (c : Option Command). RunEnds outside keepers folder c out err status) (sym none) (usage r.same)
  where
    kept : KeepsFiles folder.old folder.new
    kept = subst (λ (files : Option Files). KeepsFiles folder.old files) (sym same_files) (kept_same folder.old)

    plain : r.reported ≡ faults.Usage → RunEnds outside keepers folder None out err status
    plain is = record {
      outcome = Err faults.Usage;
      cause = (refl, kept, quiet);
      said = subst (λ (f : RunFault). SaidLine err (error_line f)) is r.said;
      status_is = r.status_is ∙ ap status_of is;
    }

    usage : (r.reported ≡ e) ⊎ ((r.reported ≡ faults.NoMemory) × TakesMemory e) → RunEnds outside keepers folder None out err status
    usage (inl same) = plain (same ∙ from)
    usage (inr (same, made)) = absurd (subst TakesMemory from made)
words_failed outside keepers folder command out err status words.NoMemory e from any same_files same_rows quiet r = ends command
  where
    kept : KeepsFiles folder.old folder.new
    kept = subst (λ (files : Option Files). KeepsFiles folder.old files) (sym same_files) (kept_same folder.old)

    is : (r.reported ≡ e) ⊎ ((r.reported ≡ faults.NoMemory) × TakesMemory e) → r.reported ≡ faults.NoMemory
    is (inl same) = same ∙ from
    is (inr (same, made)) = same

    said : SaidLine err (error_line faults.NoMemory)
    said = subst (λ (f : RunFault). SaidLine err (error_line f)) (is r.same) r.said

    status_is : status ≡ 71
    status_is = r.status_is ∙ ap status_of (is r.same)

    plain : (c : Option Command) → Ends folder c out err status
    plain c = record { outcome = Err faults.NoMemory; cause = (inl kept, quiet); said = said; status_is = status_is }

    ends : (c : Option Command) → RunEnds outside keepers folder c out err status
    ends (Some (commands.Serve address store access)) = (record { served = Err serve_faults.NoMemory; cause = inl quiet; said = said; status_is = status_is }, kept)
    ends (Some (commands.Store store database)) = (record { stored = Err storing_faults.NoMemory; cause = (inl same_rows, quiet); said = said; status_is = status_is }, kept)
    ends c = plain c
