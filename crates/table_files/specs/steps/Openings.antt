-- Steps of the code; no public clause cites them.
-- Histories of one entry that adds a sheet, and is the first of the session of tables.
use Rattle.std.specs.Prelude.{Bool, true, false, nat_le, ◌==◌, ◌&&◌, List, length, Option, None, Some, codes}
use Rattle.std.specs.List.{slice_get}
use Rattle.std.specs.Str.{bytes_eq}
use Rattle.edit_entries.specs.Entries.{EntryData, entry_size}
use Rattle.edit_entries.specs.declared.edit.Edit.{Edit}
use Rattle.edit_entries.specs.declared.edit.Edit.TheVariants as edits

-- the edit adds a sheet
abbrev pub adds_sheet : Edit → Bool
adds_sheet (edits.AddSheet name text) = true
adds_sheet _ = false

-- the entry does so, has number 1 of this session, and is far from filling a history
abbrev pub is_opening : EntryData → Bool
is_opening e =
    bytes_eq e.session (codes "fill")
    && (e.number == 1 && (adds_sheet e.edit && nat_le (entry_size e) 134217728))

abbrev pub is_opening_at : Option EntryData → Bool
is_opening_at None = false
is_opening_at (Some e) = is_opening e

-- the history has this entry alone
abbrev pub is_opened : List EntryData → Bool
is_opened h = length h == 1 && is_opening_at (slice_get h 0)
