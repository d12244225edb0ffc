-- Components that a history takes in, an entry for each, without coming near a limit.
use Rattle.std.specs.Prelude.{ℕ, ◌+◌, ◌≤◌, List, length}
use Rattle.std.specs.FinMap as finite
use Rattle.std.specs.List.{AllByRecursion, sum_by}
use Rattle.geda_grammar.specs.Canonical.{object_text}
use Rattle.geda_model.specs.Limits.{most_file_bytes, most_project_text, most_sheets, most_symbols}
use Rattle.edit_entries.specs.Entries.{EntryData, entry_size}
use Rattle.edit_rules.specs.EarlyLines.{most_entries, most_history_bytes}
use Rattle.edit_rules.specs.Histories.{project}
use Rattle.edit_rules.specs.LateLines.{project_text}
use Rattle.attr_table.specs.Filling.{component_entry}
use Rattle.attr_table.specs.SheetTables.{Numbered}

-- the bytes of the text of a component
abbrev pub component_bytes : Numbered → ℕ
component_bytes c = length (object_text c.1)

-- its text is no longer than a file may be
abbrev pub IsFileText : Numbered → Type 0
IsFileText c = component_bytes c ≤ most_file_bytes

-- the size of the entry that puts it in its place
abbrev pub component_size : List ℕ → Numbered → ℕ
component_size session c = entry_size (component_entry session 1 0 c)

-- no limit is passed by the entries of a session that put them in, though each text that goes away
-- still counts
pub record IsRoomForEntries (h : List EntryData) (session : List ℕ) (cs : List Numbered) : Type 0
  where
    pub entries : length h + length cs ≤ most_entries
    pub bytes : sum_by entry_size h + sum_by (component_size session) cs ≤ most_history_bytes
    pub sheets : finite.len (project h).sheets ≤ most_sheets
    pub symbols : finite.len (project h).symbols ≤ most_symbols
    pub text : project_text (project h) + sum_by component_bytes cs ≤ most_project_text
    pub each : AllByRecursion IsFileText cs
