-- What holds of each answer that a command comes to.
use Rattle.std.proofs.Common.{◌≡◌, ℕ, Bool, true, false, List, Option, Some, None, Result, Ok, Err, inl, inr, sym, subst}
use Rattle.std.specs.Result.{result_map_both}
use Rattle.edit_entries.specs.Entries.{EntryData}
use Rattle.std.specs.Prelude.{⊤}
use Rattle.std.specs.declared.option.Option.{Option}
use Rattle.geda_defs.specs.Contents.{Files}
use Rattle.project_model.specs.Projects.{ProjectData}
use Rattle.net_list.specs.declared.nets.Nets.{Nets}
use Rattle.project_files.specs.FileReads.{FileComesTo}
use Rattle.project_files.specs.Gathering.{ProjectFiles}
use Rattle.project_files.specs.ProjectFiles.{OfFiles, OfSome}
use Rattle.gafd_run.specs.declared.fault.RunFault.TheVariants as faults
use Rattle.spice_out.specs.declared.fault.SpiceFault.{SpiceFault}
use Rattle.spice_out.specs.Faults.{spice_fault}
use Rattle.spice_out.specs.SpiceText.{spice_text}
use Rattle.gafd_run.specs.Answers.{AnswerData, ByNetList, ByNets, CircuitOf, FillsTo, Opened, Outcome, SheetsOf, SheetsTo, TextOf, all_well, circuit, circuit_or_fault, done, fill_outcome, filled_down}
use Rattle.gafd_run.specs.Faults.{table_file_fault}
use Rattle.table_files.specs.declared.fault.TableFileFault.{TableFileFault}
use Rattle.table_files.specs.FilledFiles.{FilledData, filled_file}

-- it holds of an answer; a fault is none
abbrev pub OfAnswer : (AnswerData → Type 0) → Outcome → Type 0
OfAnswer Good (Ok answer) = Good answer
OfAnswer Good (Err fault) = ⊤

abbrev pub EachBy : (AnswerData → Type 0) → (Outcome → Type 0) → Type 0
EachBy Good Comes = (outcome : Outcome) → Comes outcome → OfAnswer Good outcome

module _ (Good : AnswerData → Type 0) where
  pub as_one : (end outcome : Outcome) → outcome ≡ end → OfAnswer Good end → OfAnswer Good outcome
  as_one end outcome is good = subst (OfAnswer Good) (sym is) good

  by_nets : (end : Nets → Outcome) → ((nets : Nets) → OfAnswer Good (end nets)) → (p : ProjectData) → EachBy Good (ByNets end p)
  by_nets end good p outcome (inl (crowded, is)) = as_one (Err faults.TooManyInstances) outcome is tt
  by_nets end good p outcome (inr (room, (nets, list, is))) = as_one (end nets) outcome is (good nets)

  of_found : (text : List ℕ) → Good (all_well text) → (found : Option SpiceFault) → OfAnswer Good (circuit_or_fault text found)
  of_found text good None = good
  of_found text good (Some fault) = tt

  pub by_sheets : (Comes : ProjectData → Outcome → Type 0) → ((p : ProjectData) → EachBy Good (Comes p)) → (files : ProjectFiles) (names : List (List ℕ)) → EachBy Good (SheetsTo Comes files names)
  by_sheets Comes good files names outcome (Ok project, come, of) = good project outcome of
  by_sheets Comes good files names outcome (Err fault, come, is) = as_one _ outcome is tt

  by_text : (is_symbol : Bool) (name bytes : List ℕ) → ((text : List ℕ) → Good (all_well text)) → EachBy Good (TextOf is_symbol name bytes)
  by_text true name bytes good outcome (inl (value, spells, is)) = as_one _ outcome is (good _)
  by_text true name bytes good outcome (inr (line, kind, fault, is)) = as_one _ outcome is tt
  by_text false name bytes good outcome (inl (value, spells, is)) = as_one _ outcome is (good _)
  by_text false name bytes good outcome (inr (line, kind, fault, is)) = as_one _ outcome is tt

  by_file : (name : List ℕ) (Comes : List ℕ → Outcome → Type 0) → ((bytes : List ℕ) → EachBy Good (Comes bytes)) → (file : Option (List ℕ)) → EachBy Good (FileComesTo (faults.Missing name) Comes file)
  by_file name Comes good None outcome is = as_one _ outcome is tt
  by_file name Comes good (Some bytes) outcome come = good bytes outcome come

  -- of the files that a folder tells, or of some files
  pub of_files : (told : Option Files) (P : ProjectFiles → Outcome → Type 0) → ((files : ProjectFiles) → EachBy Good (P files)) → EachBy Good (λ outcome. OfFiles told (λ known. P known outcome))
  of_files None P good outcome (files, come) = good files outcome come
  of_files (Some files) P good outcome come = good (record { sheets = files; symbols = files }) outcome come

  of_some : (told : Option Files) (P : Files → Outcome → Type 0) → ((files : Files) → EachBy Good (P files)) → EachBy Good (λ outcome. OfSome told (λ known. P known outcome))
  of_some None P good outcome (files, come) = good files outcome come
  of_some (Some files) P good outcome come = good files outcome come

  pub of_sheets : (answer : ProjectData → Nets → AnswerData) → ((p : ProjectData) (nets : Nets) → Good (answer p nets)) → (told : Option Files) (names : List (List ℕ)) → EachBy Good (λ outcome. OfFiles told (λ known. SheetsOf answer known names outcome))
  of_sheets answer good told names outcome come =
      of_files told (λ known end. SheetsOf answer known names end) (λ files. by_sheets (ByNetList answer) (λ p. by_nets (λ nets. Ok (answer p nets)) (good p) p) files names) outcome come

  pub of_circuit : ((text : List ℕ) → Good (all_well text)) → (told : Option Files) (names : List (List ℕ)) → EachBy Good (λ outcome. OfFiles told (λ known. SheetsTo CircuitOf known names outcome))
  of_circuit good told names outcome come =
      of_files told (λ known end. SheetsTo CircuitOf known names end) (λ files. by_sheets CircuitOf (by_nets circuit (λ nets. of_found (spice_text nets) (good (spice_text nets)) (spice_fault nets))) files names) outcome come

  pub of_text : (is_symbol : Bool) (name : List ℕ) → ((text : List ℕ) → Good (all_well text)) → (told : Option Files) → EachBy Good (λ outcome. OfSome told (λ known. FileComesTo (faults.Missing name) (TextOf is_symbol name) (known name) outcome))
  of_text is_symbol name good told outcome come =
      of_some told (λ known end. FileComesTo (faults.Missing name) (TextOf is_symbol name) (known name) end)
      (λ files. by_file name (TextOf is_symbol name) (λ bytes. by_text is_symbol name bytes good) (files name)) outcome come

  pub as_done : (text : List ℕ) → Good (all_well text) → EachBy Good (λ outcome. outcome ≡ done text)
  as_done text good outcome is = as_one (done text) outcome is good

  -- of a sheet that is opened
  pub of_opened : (Next : List EntryData → Outcome → Type 0) → ((h : List EntryData) → EachBy Good (Next h)) → (told : Option Files) (sheet : List ℕ) → EachBy Good (Opened told sheet Next)
  of_opened Next good told sheet outcome (Ok h, come, next) = good h outcome next
  of_opened Next good told sheet outcome (Err fault, come, is) = as_one (Err fault) outcome is tt

  by_filled : (end : Result FilledData TableFileFault) → ((f : FilledData) → Good (filled_down f)) → OfAnswer Good (result_map_both filled_down table_file_fault end)
  by_filled (Ok f) good = good f
  by_filled (Err fault) good = tt

  -- of a table that is filled into it
  pub of_filled : ((f : FilledData) → Good (filled_down f)) → (told : Option Files) (sheet table : List ℕ) (h : List EntryData) → EachBy Good (FillsTo told sheet table h)
  of_filled good told sheet table h outcome come =
      of_some told (λ known end. FileComesTo (faults.Missing table) (λ bytes e. e ≡ fill_outcome sheet table h bytes) (known table) end)
      (λ files. by_file table (λ bytes e. e ≡ fill_outcome sheet table h bytes) (λ bytes end is. as_one (fill_outcome sheet table h bytes) end is (by_filled (filled_file h sheet table bytes) good)) (files table)) outcome come
