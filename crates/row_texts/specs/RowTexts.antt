-- The body of a row of a history (own).
use Rattle.std.specs.Prelude.{◌≡◌, ℕ, List, [], option_and_then, unwrap_or}
use Rattle.edit_entries.specs.Entries.{EntryData}
use Rattle.edit_entries.specs.declared.edit.Edit.TheVariants.{Renumber}
use Rattle.edit_json.specs.Documents.{document_of}
use Rattle.edit_json.specs.Rows.{row_text}
use Rattle.row_texts.specs.RowReading.{entry_from}

-- the entry that stands for a body that is none
abbrev pub no_entry : EntryData
no_entry = record { session = []; number = 0; base = 0; edit = Renumber }

-- the entry that a body is
abbrev pub entry_of : List ℕ → EntryData
entry_of body = unwrap_or (option_and_then entry_from (document_of body)) no_entry

-- the body is the one spelling of this entry as a row, and is this entry
pub record IsRowOf (body : List ℕ) (entry : EntryData) : Type 0 where
  pub text : body ≡ row_text entry
  pub again : entry_of body ≡ entry
