-- The rows that a database in memory tells (own).
use Rattle.std.specs.Prelude.{◌≡◌, ℕ, Bool, if◌then◌else◌, List, [], ◌∷◌, Option, Some, None, map}
use Rattle.sqlite.specs.Order.{Row, bytes, column}
use Rattle.sqlite.specs.Effect.{Database}
use Rattle.sqlite.specs.State.{State}
use Rattle.sqlite.specs.Table.{Table}
use Rattle.edit_entries.specs.Entries.{EntryData}
use Rattle.row_table.specs.Tables.{Holds, no_schema}
use Rattle.edit_json.specs.Rows.{row_text}
use Rattle.row_texts.specs.RowTexts.{entry_of}

-- the rows of the table, where there is one
abbrev pub rows_of : List Table → List Row → List Row
rows_of [] rows = []
rows_of (table ∷ tables) rows = rows

-- the bodies in the table
abbrev pub bodies_in : Database → List (List ℕ)
bodies_in db = map (λ r. bytes (column r 2)) (rows_of db.schema.tables (db.trees 0))

-- the entries that they are
abbrev pub told_rows : State → List EntryData
told_rows s = map entry_of (bodies_in s.now)

-- the table has exactly the serials below their number, and at each serial the text of its row
abbrev pub IsKept : State → Type 0
IsKept s = Holds s (map row_text (told_rows s))

-- the rows are kept, and are these
pub record Tells (s : State) (rows : List EntryData) : Type 0 where
  pub kept : IsKept s
  pub are : told_rows s ≡ rows

-- an open database without a table, and no transaction
pub record IsBlank (s : State) : Type 0 where
  pub holds : Holds s []
  pub schema : s.now.schema ≡ no_schema

-- those, if they are told
abbrev pub told_if : Bool → State → Option (List EntryData)
told_if tells s = if tells then Some (told_rows s) else None
