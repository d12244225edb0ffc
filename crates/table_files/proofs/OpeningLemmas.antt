-- The entry that adds a sheet, put into a history.
use Rattle.std.proofs.Common.{◌≡◌, ℕ, List, [], ◌∷◌, ◌++◌, Option, None, Some, Result, Ok, Err, refl, sym, ap, ◌∙◌}
use Rattle.geda_grammar.specs.declared.kind.ReadKind.{ReadKind}
use Rattle.geda_model.specs.Sheets.{SheetData}
use Rattle.desk_entries.specs.Putting.{Put, put_all, put_by, unless_fault}
use Rattle.edit_entries.specs.Entries.{EntryData}
use Rattle.edit_entries.specs.declared.fault.EditFault.{EditFault}
use Rattle.edit_entries.specs.declared.fault.EditFault.TheVariants as edit_faults
use Rattle.edit_rules.specs.EarlyLines.{bad_text, text_fault}
use Rattle.edit_rules.specs.Histories.{changes}
use Rattle.edit_rules.specs.Values.{sheet_value}
use Rattle.edit_rules.specs.Verdicts.{crossed, early, first_of, late, verdict_lines, verdict, verdict_by}
use Rattle.table_files.specs.Faults.{IsFaultOf}
use Rattle.table_files.specs.OpenedFiles.{GivesTableFile, add_sheet, opened_file, opened_value, put_or_fault, put_sheet}
use Rattle.table_files.specs.declared.fault.TableFileFault.{TableFileFault}
use Rattle.table_files.specs.declared.fault.TableFileFault.TheVariants as faults

-- what it comes to that these entries are put, if they are the one that adds a sheet
pub as_put : (h es : List EntryData) (sheet text : List ℕ) (put : Put) → es ≡ add_sheet sheet text ∷ []
    → put ≡ put_all h es → put ≡ put_sheet h sheet text
unfolding put_sheet
as_put h es sheet text put same made = made ∙ ap (put_all h) same

-- a line that holds has a first one that does
some_line : (before : List (Option EditFault)) (fault : EditFault) (after : List (Option EditFault))
    → (first : EditFault) × (first_of (before ++ Some fault ∷ after) ≡ Some first)
some_line [] fault after = (fault, refl)
some_line (None ∷ before) fault after = some_line before fault after
some_line (Some first ∷ before) fault after = (first, refl)

-- the entry of a text that spells no sheet is refused
unread_refused : (sheet text : List ℕ) (fault : ReadKind × ℕ) → sheet_value text ≡ Err fault
    → (first : EditFault) × (put_sheet [] sheet text ≡ ([], Some first))
unfolding put_sheet
unread_refused sheet text fault is =
    let e = add_sheet sheet text in
    let told = edit_faults.BadText fault.0 fault.1 in
    let bad : bad_text e.edit ≡ Some told = ap text_fault is in
    let after = None ∷ None ∷ [] ++ (crossed [] e ++ late [] e) in
    let line = some_line (early [] e) told after in
    let all : first_of (verdict_lines [] e) ≡ Some line.0 = (λ i. first_of (early [] e ++ bad i ∷ after)) ∙ line.1 in
    let refused : verdict [] e ≡ verdict_by None (Some line.0) (changes [] e.edit) = ap (λ (o : Option EditFault). verdict_by None o (changes [] e.edit)) all in (
      line.0,
      (λ i. unless_fault (put_by [] e (refused i)).1 (put_all (put_by [] e (refused i)).0 []) (put_by [] e (refused i))),
    )

-- a history that the entry has come into is that of the sheet
pub opened : (sheet text : List ℕ) (h : List EntryData) → (h, None) ≡ put_sheet [] sheet text → opened_file sheet text ≡ Ok h
opened sheet text h made = by (sheet_value text) refl
  where
    by : (value : Result SheetData (ReadKind × ℕ)) → sheet_value text ≡ value → opened_value sheet text value ≡ Ok h
    by (Ok s) is = ap (put_or_fault sheet) (sym made)
    by (Err fault) is =
        let refused = unread_refused sheet text fault is in
        let clash : None ≡ Some refused.0 = ap (λ (p : Put). p.1) (made ∙ refused.1) in
        absurd (cc clash)

-- where it has not, the fault is that of the text, or of the entry
pub not_opened : {X : Type 0} (view : X → List EntryData) (sheet text : List ℕ) (h : List EntryData) (fault : EditFault) (e : TableFileFault)
    → (h, Some fault) ≡ put_sheet [] sheet text → IsFaultOf sheet (faults.EditRefused sheet fault) (sheet_value text) e
    → GivesTableFile view (Err e) (opened_file sheet text)
not_opened view sheet text h fault e made is = by (sheet_value text) e is
  where
    accepted : put_or_fault sheet (put_sheet [] sheet text) ≡ Err (faults.EditRefused sheet fault)
    accepted = ap (put_or_fault sheet) (sym made)

    by : (value : Result SheetData (ReadKind × ℕ)) (e : TableFileFault) → IsFaultOf sheet (faults.EditRefused sheet fault) value e
        → GivesTableFile view (Err e) (opened_value sheet text value)
    by value faults.NoMemory t = tt
    by (Ok s) (faults.Refused file line kind) t = accepted ∙ ap Err (sym t)
    by (Ok s) (faults.EditRefused file other) t = accepted ∙ ap Err (sym t)
    by (Ok s) (faults.TableRefused file row kind) t = accepted ∙ ap Err (sym t)
    by (Err f) (faults.Refused file line kind) t = ap Err (sym t)
    by (Err f) (faults.EditRefused file other) t = ap Err (sym t)
    by (Err f) (faults.TableRefused file row kind) t = ap Err (sym t)

-- bytes that have a fault have it also where no text is made of them
pub no_text : {X : Type 0} (view : X → List EntryData) (sheet bytes : List ℕ) (e : TableFileFault)
    → IsFaultOf sheet faults.NoMemory (sheet_value bytes) e → GivesTableFile view (Err e) (opened_file sheet bytes)
no_text view sheet bytes e is = by (sheet_value bytes) e is
  where
    by : (value : Result SheetData (ReadKind × ℕ)) (e : TableFileFault) → IsFaultOf sheet faults.NoMemory value e → GivesTableFile view (Err e) (opened_value sheet bytes value)
    by value faults.NoMemory t = tt
    by (Ok s) (faults.Refused file line kind) t = absurd (cc t)
    by (Ok s) (faults.EditRefused file other) t = absurd (cc t)
    by (Ok s) (faults.TableRefused file row kind) t = absurd (cc t)
    by (Err f) (faults.Refused file line kind) t = ap Err (sym t)
    by (Err f) (faults.EditRefused file other) t = ap Err (sym t)
    by (Err f) (faults.TableRefused file row kind) t = ap Err (sym t)
