-- Sheets that are opened and tables that are filled in: what their first parts come to, and their faults.
use Rattle.std.proofs.Common.{◌≡◌, ℕ, ◌≤◌, Bool, true, false, List, Option, Some, None, Result, Ok, Err, length, take, inl, inr, refl, sym, ap, subst, ◌∙◌, arith}
use Rattle.std.specs.Prelude.{min, nat_lt}
use Rattle.std.specs.Result.{result_map_both}
use Rattle.std.specs.declared.option.Option.{Option}
use Rattle.std.proofs.lemmas.Bool.Decides.{nat_tests}
use Rattle.std.proofs.lemmas.List.{length-take, take_all}
use Rattle.geda_defs.specs.Causes.{HasCause}
use Rattle.geda_defs.specs.Contents.{Files, KeepsFiles}
use Rattle.geda_grammar.specs.Faults.{sheet_file}
use Rattle.geda_grammar.specs.declared.kind.ReadKind.{ReadKind}
use Rattle.geda_model.specs.Sheets.{SheetData}
use Rattle.edit_desk.specs.Desks.{DeskView}
use Rattle.edit_entries.specs.Entries.{EntryData}
use Rattle.edit_rules.proofs.ValueLaws.{sheet_is_value}
use Rattle.edit_rules.specs.Values.{sheet_value}
use Rattle.project_files.specs.FileReads.{FileComesTo, ReadAs}
use Rattle.project_files.specs.declared.folder.FolderFault.{FolderFault}
use Rattle.project_files.specs.declared.folder.FolderFault.TheVariants as folder
use Rattle.project_files.proofs.Passing.{risen}
use Rattle.project_files.specs.ProjectFiles.{OfSome}
use Rattle.project_files.proofs.Reading.{HoldsOfWhole, read_whole}
use Rattle.table_files.specs.FilledFiles.{FilledData, filled_file}
use Rattle.table_files.specs.OpenedFiles.{GivesTableFile, opened_file, opened_value}
use Rattle.table_files.specs.declared.fault.TableFileFault.{TableFileFault}
use Rattle.table_files.specs.declared.fault.TableFileFault.TheVariants as table_faults
use Rattle.gafd_run.specs.Answers.{AnswerData, FillsTo, Opened, OpensTo, Outcome, fill_outcome, filled_down, opened_history}
use Rattle.gafd_run.specs.Faults.{table_file_fault}
use Rattle.gafd_run.specs.declared.fault.RunFault.{RunFault}
use Rattle.gafd_run.specs.declared.fault.RunFault.TheVariants as faults
use Rattle.gafd_run.specs.steps.Passing.{AnswerOf, ComesOf, FromFolder}
use Rattle.gafd_run.specs.steps.Tables.{OpenedFrom, OpensAs, history_in}
use Rattle.outside.specs.Counts.{counts}

-- a first part that spells a sheet is the whole file
part_short : (whole : List ℕ) (v : SheetData) → sheet_value (take 4194305 whole) ≡ Ok v → take 4194305 whole ≡ whole
part_short whole v e =
    let short : length (take 4194305 whole) ≤ 4194304 = ((sheet_is_value.spelled (take 4194305 whole) v).0 e).short in
    take_all 4194305 whole (omega (arith, short, length-take 4194305 whole))

-- nothing comes of a sheet but the fault that its text has
abbrev NotASheet : SheetData → Result SheetData (ReadKind × ℕ) → Type 0
NotASheet v end = ⊥

whole_fault : (whole : List ℕ) (kind : ReadKind) (line : ℕ)
    → ReadAs sheet_file (λ (l : ℕ) (k : ReadKind). (k, l)) NotASheet whole (Err (kind, line)) → sheet_value whole ≡ Err (kind, line)
whole_fault whole kind line (inl (v, spelled, bad)) = absurd bad
whole_fault whole kind line (inr (l, k, fault, is)) = (sheet_is_value.faulty whole k l).1 fault ∙ sym is

-- a first part that spells none has the fault of the file
part_fault : (whole : List ℕ) (kind : ReadKind) (line : ℕ) → sheet_value (take 4194305 whole) ≡ Err (kind, line) → sheet_value whole ≡ Err (kind, line)
part_fault whole kind line e =
    whole_fault whole kind line
    (read_whole sheet_file (λ (l : ℕ) (k : ReadKind). (k, l)) NotASheet whole (Err (kind, line))
    (inr (line, kind, (sheet_is_value.faulty (take 4194305 whole) kind line).0 e, refl)))

-- so a file is opened as its first part is
opened_whole : (sheet whole : List ℕ) → opened_file sheet (take 4194305 whole) ≡ opened_file sheet whole
opened_whole sheet whole = go (sheet_value (take 4194305 whole)) refl
  where
    go : (value : Result SheetData (ReadKind × ℕ)) → sheet_value (take 4194305 whole) ≡ value → opened_value sheet (take 4194305 whole) (sheet_value (take 4194305 whole)) ≡ opened_value sheet whole (sheet_value whole)
    go (Ok v) e = ap (opened_file sheet) (part_short whole v e)
    go (Err (kind, line)) e = ap (opened_value sheet (take 4194305 whole)) e ∙ sym (ap (opened_value sheet whole) (part_fault whole kind line e))

pub opens_whole : (sheet : List ℕ) (read : Result (List EntryData) RunFault)
    → HoldsOfWhole (λ file. FileComesTo (faults.Missing sheet) (λ bytes end. end ≡ opened_history sheet bytes) file read)
opens_whole sheet read None h = h
opens_whole sheet read (Some whole) h = h ∙ ap (result_map_both (λ (e : List EntryData). e) table_file_fault) (opened_whole sheet whole)

-- a sheet that is opened, or not
pub opens_done : (sheet bytes : List ℕ) (desk : DeskView) → opened_file sheet bytes ≡ Ok desk.history → OpensAs sheet bytes (Ok desk)
opens_done sheet bytes desk is = sym (ap (result_map_both (λ (e : List EntryData). e) table_file_fault) is)

pub opens_failed : (sheet bytes : List ℕ) (e : TableFileFault) → GivesTableFile (λ (d : DeskView). d.history) (Err e) (opened_file sheet bytes) → ComesOf (OpensAs sheet bytes) (Err (table_file_fault e))
opens_failed sheet bytes table_faults.NoMemory is = tt
opens_failed sheet bytes (table_faults.Refused file line kind) is = sym (ap (result_map_both (λ (e : List EntryData). e) table_file_fault) is)
opens_failed sheet bytes (table_faults.EditRefused file fault) is = sym (ap (result_map_both (λ (e : List EntryData). e) table_file_fault) is)
opens_failed sheet bytes (table_faults.TableRefused file row kind) is = sym (ap (result_map_both (λ (e : List EntryData). e) table_file_fault) is)

long_of : (n k : ℕ) → nat_lt 4194304 n ≡ true → k ≡ min 4194305 n → nat_lt 4194304 k ≡ true
long_of n k e is = grind (arith, nat_tests)

short_of : (n : ℕ) → nat_lt 4194304 n ≡ false → n ≤ 4194305
short_of n e = grind (arith, nat_tests)

-- a table is filled in as its first part is
filled_whole : (h : List EntryData) (sheet table whole : List ℕ) → filled_file h sheet table (take 4194305 whole) ≡ filled_file h sheet table whole
filled_whole h sheet table whole = go (nat_lt 4194304 (length whole)) refl
  where
    go : (b : Bool) → nat_lt 4194304 (length whole) ≡ b → filled_file h sheet table (take 4194305 whole) ≡ filled_file h sheet table whole
    go true e = rw (long_of (length whole) (length (take 4194305 whole)) e (length-take 4194305 whole), e) refl
    go false e = ap (filled_file h sheet table) (take_all 4194305 whole (short_of (length whole) e))

pub fills_whole : (sheet table : List ℕ) (h : List EntryData) (outcome : Outcome)
    → HoldsOfWhole (λ file. FileComesTo (faults.Missing table) (λ bytes end. end ≡ fill_outcome sheet table h bytes) file outcome)
fills_whole sheet table h outcome None k = k
fills_whole sheet table h outcome (Some whole) k = k ∙ ap (result_map_both filled_down table_file_fault) (filled_whole h sheet table whole)

-- a table that is filled in, or not
pub fill_done : (h : List EntryData) (sheet table bytes : List ℕ) (f : FilledData) (answer : AnswerData) → filled_file h sheet table bytes ≡ Ok f → answer ≡ filled_down f → Ok answer ≡ fill_outcome sheet table h bytes
fill_done h sheet table bytes f answer is made = ap Ok made ∙ sym (ap (result_map_both filled_down table_file_fault) is)

pub fill_failed : (h : List EntryData) (sheet table bytes : List ℕ) (e : TableFileFault) → GivesTableFile (λ (f : FilledData). f) (Err e) (filled_file h sheet table bytes)
    → ComesOf (λ (end : Outcome). end ≡ fill_outcome sheet table h bytes) (Err (table_file_fault e))
fill_failed h sheet table bytes table_faults.NoMemory is = tt
fill_failed h sheet table bytes (table_faults.Refused file line kind) is = sym (ap (result_map_both filled_down table_file_fault) is)
fill_failed h sheet table bytes (table_faults.EditRefused file fault) is = sym (ap (result_map_both filled_down table_file_fault) is)
fill_failed h sheet table bytes (table_faults.TableRefused file row kind) is = sym (ap (result_map_both filled_down table_file_fault) is)

-- what a later call answers that a folder was lent to, as the answer of a whole
pub answer_later : {A : Type 0} (before between now : ℕ) (P Q : Result A RunFault → Type 0) (outcome : Result A RunFault) → before ≤ between
    → ((r : Result A RunFault) → P r → Q r) → AnswerOf (counts between now) P outcome → AnswerOf (counts before now) Q outcome
answer_later before between now P Q (Err faults.FolderFault) later f h = risen before between now later h
answer_later before between now P Q (Err faults.OutputFault) later f h = h
answer_later before between now P Q (Err faults.NoMemory) later f h = tt
answer_later before between now P Q outcome later f h = f outcome h

-- what holds of the files that stayed holds of those before
some_kept : (old new : Option Files) (P : Files → Type 0) → KeepsFiles old new → OfSome new P → OfSome old P
some_kept None None P kept p = p
some_kept None (Some files) P kept p = (files, p)
some_kept (Some old) None P kept p = absurd kept
some_kept (Some old) (Some new) P kept p = subst P (λ i name. kept name i) p

pub fills_before : (old new : Option Files) (sheet table : List ℕ) (h : List EntryData) (outcome : Outcome) → KeepsFiles old new → FillsTo new sheet table h outcome → FillsTo old sheet table h outcome
fills_before old new sheet table h outcome kept fills =
    some_kept old new (λ known. FileComesTo (faults.Missing table) (λ bytes end. end ≡ fill_outcome sheet table h bytes) (known table) outcome) kept fills

-- a fault of the folder is that of the program
pub folder_failed : {A T : Type 0} (old now : ℕ) (P : Result A RunFault → Type 0) (e : FolderFault) (f : RunFault) → FromFolder e f → HasCause {T = T} old now (Err e) folder.Failed → AnswerOf (counts old now) P (Err f)
folder_failed old now P folder.Failed f from has = subst (λ (g : RunFault). AnswerOf (counts old now) P (Err g)) (sym from) (has.cause refl)
folder_failed old now P folder.NoMemory f from has = subst (λ (g : RunFault). AnswerOf (counts old now) P (Err g)) (sym from) tt

-- a sheet that is not opened ends the command with its fault
pub open_failed : (old now : ℕ) (files : Option Files) (sheet : List ℕ) (Next : List EntryData → Outcome → Type 0) (e : RunFault)
    → AnswerOf (counts old now) (OpenedFrom files sheet) (Err e) → AnswerOf (counts old now) (Opened files sheet Next) (Err e)
open_failed old now files sheet Next faults.FolderFault h = h
open_failed old now files sheet Next faults.OutputFault h = h
open_failed old now files sheet Next faults.NoMemory h = tt
open_failed old now files sheet Next e h = (Err e, h, refl)

-- files that stay through two calls stay through both
pub kept_on : (old between now : Option Files) → KeepsFiles old between → KeepsFiles between now → KeepsFiles old now
kept_on None between now first second = tt
kept_on (Some old) None now first second = absurd first
kept_on (Some old) (Some between) None first second = absurd second
kept_on (Some old) (Some between) (Some now) first second = λ name. second name ∙ first name
