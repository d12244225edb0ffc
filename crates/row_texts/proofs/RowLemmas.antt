-- The entry of a body is the one that was written, and the one that is read.
use Rattle.std.proofs.Common.{◌≡◌, ℕ, ◌==◌, ◌∷◌, [], List, Bool, true, false, Some, Result, Ok, Err, IfOk, refl, sym, ap, ◌∙◌, option_and_then, unwrap_or}
use Rattle.std.specs.Prelude.{MatchResult}
use Rattle.edit_entries.specs.Entries.{EntryData}
use Rattle.edit_entries.specs.declared.edit.Edit.{Edit}
use Rattle.edit_entries.specs.declared.edit.Edit.TheVariants as edits
use Rattle.edit_json.specs.EntryValues.{edit_value, entry_value, id_items}
use Rattle.edit_json.specs.Rows.{IsRowText, RowData, new_value, row_text, row_value}
use Rattle.edit_json.proofs.ValueLemmas.{integer_again}
use Rattle.row_texts.specs.RowReading.{edit_from, entry_by, entry_from, numbers}
use Rattle.row_texts.specs.RowTexts.{IsRowOf, entry_of, no_entry}

numbers_again : (ids : List ℕ) → numbers (id_items ids) ≡ Some ids
numbers_again [] = refl
numbers_again (id ∷ ids) = rw (numbers_again ids) refl

-- of the value of an edit it is that edit
edit_again : (edit : Edit) → edit_from (edit_value edit) ≡ Some edit
edit_again (edits.AddSheet name text) = refl
edit_again (edits.AddSymbol name text) = refl
edit_again (edits.ReplaceSymbol name text) = refl
edit_again (edits.AddObject sheet text) = refl
edit_again (edits.Replace id text) = refl
edit_again (edits.Delete ids) = rw (numbers_again ids) refl
edit_again (edits.Move ids dx dy) = rw (numbers_again ids, integer_again dx, integer_again dy) refl
edit_again (edits.Turn ids x y quarter mirror) = rw (numbers_again ids, integer_again x, integer_again y) refl
edit_again (edits.SetAttr id name value) = refl
edit_again (edits.DropAttr id name) = refl
edit_again edits.Renumber = refl
edit_again (edits.Undo serial) = refl

old_again : (e : EntryData) → entry_from (entry_value e) ≡ Some e
old_again e = ap (entry_by (Some e.session) (Some e.number) (Some e.base)) (edit_again e.edit)

new_again : (e : EntryData) → entry_from (new_value e) ≡ Some e
new_again e = ap (entry_by (Some e.session) (Some e.number) (Some e.base)) (edit_again e.edit)

-- of the value of a row of either version it is its entry
row_again : (row : RowData) → entry_from (row_value row) ≡ Some row.entry
row_again row = go (row.version == 2) refl
  where
    go : (t : Bool) → (row.version == 2) ≡ t → entry_from (row_value row) ≡ Some row.entry
    go true e = rw e (new_again row.entry)
    go false e = rw e (old_again row.entry)

-- a body that is a row is the row's entry
pub is_entry_of : (body : List ℕ) (row : RowData) → IsRowText body row → entry_of body ≡ row.entry
is_entry_of body row is =
    ap (λ d. unwrap_or (option_and_then entry_from d) no_entry) is ∙ ap (λ o. unwrap_or o no_entry) (row_again row)

-- the entry of what was read of a body is the body's
pub taken : {E F : Type 0} (body : List ℕ) (read : Result RowData E) (r : Result EntryData F) → MatchResult read (λ row. IfOk r (λ entry. entry ≡ row.entry)) (λ _. IfOk r (λ _. ⊥))
    → IfOk read (IsRowText body) → IfOk r (λ entry. entry_of body ≡ entry)
taken body (Ok row) (Ok entry) is found = is_entry_of body row found ∙ sym is
taken body (Err e) (Ok entry) is found = absurd is
taken body read (Err f) is found = tt

pub is_row : {X E : Type 0} (r : Result X E) (bytes : X → List ℕ) (entry : EntryData) → IfOk r (λ b. bytes b ≡ row_text entry)
    → IfOk r (λ b. IsRowText (bytes b) (record { version = 2; entry = entry })) → IfOk r (λ b. IsRowOf (bytes b) entry)
is_row (Ok b) bytes entry text reads = record { text = text; again = is_entry_of (bytes b) (record { version = 2; entry = entry }) reads }
is_row (Err e) bytes entry text reads = tt
