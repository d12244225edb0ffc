-- The rows that a keeper on several machines tells: those that it vouches for (own).
use Rattle.std.specs.Prelude.{ℕ, List, Option, map, take}
use Rattle.std.specs.Option.{option_map}
use Rattle.edit_entries.specs.Entries.{EntryData}
use Rattle.engine_core.specs.Worlds.{World}
use Rattle.row_texts.specs.RowTexts.{entry_of}

-- the entries of the first rows
abbrev pub first_entries : ℕ → World → List EntryData
first_entries count w = map entry_of (take count w.rows)

-- those, where the store tells what is there
abbrev pub vouched_rows : ℕ → Option World → Option (List EntryData)
vouched_rows count world = option_map (first_entries count) world
