-- What a row file holds (own).
use Rattle.std.specs.Prelude.{◌≡◌, ⊤, ℕ, List, Option, Some, None, Result, Ok, Err}
use Rattle.geda_defs.specs.Lines.{ended}
use Rattle.edit_entries.specs.Entries.{EntryData}
use Rattle.edit_json.specs.Rows.{IsRowText, RowIsInRange}
use Rattle.file_keeper.specs.RowSums.{IsRowPart}
use Rattle.keeper_core.specs.declared.keeper.KeepFault.{KeepFault}
use Rattle.keeper_core.specs.declared.keeper.KeepFault.TheVariants as fault

-- the text is a row of this entry, of either version
pub record IsRowLine (text : List ℕ) (entry : EntryData) : Type 0 where
  pub version : ℕ
  pub range : RowIsInRange (record { version = version; entry = entry })
  pub is : IsRowText text (record { version = version; entry = entry })

-- the bytes are the row of this entry: a text whose row is one of it, and LF
abbrev pub IsRow : List ℕ → EntryData → Type 0
IsRow bytes entry =
    (text row : List ℕ) × (bytes ≡ ended text) × IsRowPart text row × IsRowLine row entry

-- the bytes do not end in LF
abbrev pub IsCut : List ℕ → Type 0
IsCut bytes = (text : List ℕ) → ¬ (bytes ≡ ended text)

-- the bytes end in LF, and are the row of no entry
pub record HoldsNoEntry (bytes : List ℕ) : Type 0 where
  pub text : List ℕ
  pub whole : bytes ≡ ended text
  pub no_entry : (row : List ℕ) (entry : EntryData) → IsRowPart text row → ¬ (IsRowLine row entry)

-- what a reader of a row file answers: there is no row where it is cut
abbrev pub ReadsRow : List ℕ → Result (Option EntryData) KeepFault → Type 0
ReadsRow bytes (Ok None) = IsCut bytes
ReadsRow bytes (Ok (Some entry)) = IsRow bytes entry
ReadsRow bytes (Err fault.Failed) = HoldsNoEntry bytes
ReadsRow bytes (Err fault.NoMemory) = ⊤

-- this is answered, or there was no memory
abbrev pub IsLoaded : {X : Type 0} → X → Result X KeepFault → Type 0
IsLoaded x (Ok y) = y ≡ x
IsLoaded x (Err fault.Failed) = ⊥
IsLoaded x (Err fault.NoMemory) = ⊤
