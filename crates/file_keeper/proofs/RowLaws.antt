-- What the reader of a row file answers, from what the reader of rows does.
use Rattle.std.proofs.Common.{◌≡◌, ◌∷◌, [], ◌∙◌, ℕ, List, Option, None, Some, MatchOption, Result, Ok, Err, IfOk, sym, ap, subst}
use Rattle.std.proofs.lemmas.List.{append_cancel_right}
use Rattle.geda_defs.specs.Lines.{ended}
use Rattle.edit_entries.specs.Entries.{EntryData}
use Rattle.edit_json.specs.Rows.{IsRowRead, IsRowText, RowData, RowIsInRange}
use Rattle.edit_json.specs.declared.row.RowFault.{RowFault}
use Rattle.edit_json.specs.declared.row.RowFault.TheVariants as rows
use Rattle.file_keeper.specs.RowFiles.{HoldsNoEntry, IsLoaded, IsRow, IsRowLine, ReadsRow}
use Rattle.file_keeper.specs.RowSums.{IsRowPart, summed}
use Rattle.file_keeper.specs.steps.RowTexts.{ReadsText, TakesEntry}
use Rattle.file_keeper.proofs.SumLemmas.{one_part, own_part}
use Rattle.keeper_core.specs.declared.keeper.KeepFault.{KeepFault}
use Rattle.keeper_core.specs.declared.keeper.KeepFault.TheVariants as fault

-- a row is one of its entry
of_row : (text : List ℕ) (row : RowData) → RowIsInRange row → IsRowText text row → IsRowLine text row.entry
of_row text row range is = record { version = row.version; range = range; is = is }

-- each row that a text is, is the one that was read
abbrev IsReader : List ℕ → Result RowData RowFault → Type 0
IsReader text read = (row : RowData) → RowIsInRange row → IsRowText text row → IsRowRead row read

-- what is read of a text is a row, or it is none
pub entry_read : (text : List ℕ) (read : Result RowData RowFault) (taken : Result EntryData KeepFault) → TakesEntry read taken → IfOk read (IsRowText text) → IsReader text read → ReadsText text taken
entry_read text (Ok row) (Ok entry) takes found every = subst (IsRowLine text) (sym takes.0) (of_row text row takes.1 found)
entry_read text (Ok row) (Err f) takes found every = absurd takes
entry_read text (Err rows.BadRow) (Ok entry) takes found every = absurd takes
entry_read text (Err rows.BadRow) (Err fault.Failed) takes found every = λ entry o. every (record { version = o.version; entry = entry }) o.range o.is
entry_read text (Err rows.BadRow) (Err fault.NoMemory) takes found every = absurd takes
entry_read text (Err rows.NoMemory) (Ok entry) takes found every = absurd takes
entry_read text (Err rows.NoMemory) (Err fault.Failed) takes found every = absurd takes
entry_read text (Err rows.NoMemory) (Err fault.NoMemory) takes found every = tt

-- the entry of a text is read
pub entry_loaded : (text : List ℕ) (read : Result RowData RowFault) (taken : Result EntryData KeepFault) → TakesEntry read taken → IsReader text read → (entry : EntryData) → IsRowLine text entry → IsLoaded entry taken
entry_loaded text (Ok row) (Ok x) takes every entry o = takes.0 ∙ ap (λ r. r.entry) (every (record { version = o.version; entry = entry }) o.range o.is)
entry_loaded text (Ok row) (Err f) takes every entry o = absurd takes
entry_loaded text (Err rows.BadRow) (Ok x) takes every entry o = absurd takes
entry_loaded text (Err rows.BadRow) (Err fault.Failed) takes every entry o = every (record { version = o.version; entry = entry }) o.range o.is
entry_loaded text (Err rows.BadRow) (Err fault.NoMemory) takes every entry o = absurd takes
entry_loaded text (Err rows.NoMemory) (Ok x) takes every entry o = absurd takes
entry_loaded text (Err rows.NoMemory) (Err fault.Failed) takes every entry o = absurd takes
entry_loaded text (Err rows.NoMemory) (Err fault.NoMemory) takes every entry o = tt

-- what was found, or that there is none
module _ {X : Type 0} (found : Option X) (now : X → List ℕ) (text : List ℕ) where
  abbrev IsFound : Option X → Type 0
  IsFound option =
      MatchOption option ((row : List ℕ) → ¬ (IsRowPart text row)) (λ row. IsRowPart text (now row))

  pub part_found : (row : X) → found ≡ Some row → IsFound found → IsRowPart text (now row)
  part_found row is h = subst IsFound is h

  pub none_found : found ≡ None → IsFound found → (row : List ℕ) → ¬ (IsRowPart text row)
  none_found is h = subst IsFound is h

-- bytes that are a row have it as the row of the text before their LF
pub text_of_row : (bytes text row : List ℕ) (entry : EntryData) → bytes ≡ ended text
    → IsRowPart text row → IsRow bytes entry → IsRowLine row entry
text_of_row bytes text row entry whole part (other, its_row, is, its_part, line) =
    let same = append_cancel_right other text (10 ∷ []) (sym is ∙ whole) in
    let here = subst (λ t. IsRowPart t its_row) same its_part in
    subst (λ r. IsRowLine r entry) (one_part text its_row row here part) line

-- a text that has no row is the row of no entry
pub no_row : (bytes text : List ℕ) → bytes ≡ ended text
    → ((row : List ℕ) → ¬ (IsRowPart text row)) → HoldsNoEntry bytes
no_row bytes text whole none = record {
  text = text;
  whole = whole;
  no_entry = λ row entry part. absurd (none row part);
}

pub no_entry : (bytes text : List ℕ) (entry : EntryData) → bytes ≡ ended text
    → ((row : List ℕ) → ¬ (IsRowPart text row)) → ¬ (IsRow bytes entry)
no_entry bytes text entry whole none (other, row, is, part, line) =
    let same = append_cancel_right other text (10 ∷ []) (sym is ∙ whole) in
    none row (subst (λ t. IsRowPart t row) same part)

-- a row that is not read is that of no entry, or there was no memory
pub row_unread : (bytes text row : List ℕ) (f : KeepFault) → bytes ≡ ended text
    → IsRowPart text row → ReadsText row (Err f) → ReadsRow bytes (Err f)
row_unread bytes text row fault.Failed whole part none = record {
  text = text;
  whole = whole;
  no_entry = λ other entry its_part line.
      none entry (subst (λ r. IsRowLine r entry) (one_part text other row its_part part) line);
}
row_unread bytes text row fault.NoMemory whole part none = tt

-- an entry that is spelled in version 2, with its sum and LF, is the row of its bytes
pub row_written : (bytes text : List ℕ) (entry : EntryData)
    → RowIsInRange (record { version = 2; entry = entry })
    → IsRowText text (record { version = 2; entry = entry }) → bytes ≡ ended (summed text)
    → IsRow bytes entry
row_written bytes text entry range is whole =
    (summed text, text, whole, own_part text, record { version = 2; range = range; is = is })

-- a fault is one whatever was to be read
pub same_fault : {X Y : Type 0} (x : X) (y : Y) (f : KeepFault) → IsLoaded x (Err f) → IsLoaded y (Err f)
same_fault x y fault.Failed loaded = absurd loaded
same_fault x y fault.NoMemory loaded = tt
