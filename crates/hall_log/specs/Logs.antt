-- The list of entries that all callers share, as a log: its rule, and what its step tells (own).
use Rattle.std.specs.Prelude.{ℕ, ◌≡◌, ◌==◌, ◌<◌, true, List, [], ◌∷◌, ◌++◌, length, MatchBool}
use mathlib.Core.List.{IsPrefix}
use Rattle.logbook.specs.Pages.{Cell, Step, View, Book, Named}
use Rattle.edit_entries.specs.Entries.{EntryData}
use Rattle.hall_log.specs.Histories.{IsHistory}

-- the first word is the length of the list, which is a history; a log has two words, of which this
-- one leaves the second at 0
pub record IsKeptLog (cells : List Cell) (log : List EntryData) : Type 0 where
  pub words : cells ≡ (length log, true) ∷ (0, true) ∷ []
  pub history : IsHistory log

-- the name of the first word
abbrev pub head_of : Book → Named
head_of b = record { tracked = true; key = 0; book = b }

-- ys begins with xs, and goes on
abbrev pub IsLonger : List EntryData → List EntryData → Type 0
IsLonger xs ys = IsPrefix xs ys × (length xs < length ys)

-- the entry was added to all that had been seen; or the list was longer, and was seen
abbrev pub Adds : Step EntryData → View EntryData ℕ → ℕ → View EntryData ℕ → Type 0
Adds s v found w =
    MatchBool (found == s.old)
    ((w.0 ≡ v.0 ++ s.ask ∷ []) × IsHistory w.0)
    ((length w.0 ≡ found) × IsHistory w.0)

-- a log and a ledger that have no name yet
pub record NewLogData : Type 0 where
  pub book : Book
  pub ledger : ℕ
  pub parts : ℕ
