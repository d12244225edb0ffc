-- What the closing of a hall says of its seats (own).
use Rattle.std.specs.Prelude.{◌≡◌, ◌≤◌, ℕ, Bool, true, false, List, length, map, All, Option, IfSome}
use Rattle.std.specs.List.{sum_by}
use mathlib.Core.List.{IsPrefix}
use Rattle.edit_entries.specs.Entries.{EntryData}
use Rattle.edit_rules.specs.Verdicts.{Legal}
use Rattle.hall_core.specs.Seats.{SeatData, OneHasRisen}

-- what the seats have seen and lost stays
pub record IsSettled (olds news : List SeatData) : Type 0 where
  pub count : length news ≡ length olds
  pub seen : map (λ new. new.seen) news ≡ map (λ old. old.seen) olds
  pub losses : map (λ new. new.losses) news ≡ map (λ old. old.losses) olds

-- these entries hold all that the seats have seen, or one was refused
abbrev pub Settles : List EntryData → Bool → List SeatData → List SeatData → Type 0
Settles listed true olds news =
    IsSettled olds news × All (λ new. IsPrefix new.seen listed) news
Settles listed false olds news = IsSettled olds news × OneHasRisen olds news

-- the same of told rows
abbrev pub HoldsSeats : Option (List EntryData) → Bool → List SeatData → List SeatData → Type 0
HoldsSeats rows true olds news = IfSome rows (λ all. All (λ new. IsPrefix new.seen all) news)
HoldsSeats rows false olds news = OneHasRisen olds news

-- told rows are a legal history; they hold all that the seats have seen, or one of these was
-- refused; all seats of the hall together were told no more faults than the keeper counted
pub record Closes (rows : Option (List EntryData)) (faults seats : ℕ) (held : Bool)
    (olds news : List SeatData) : Type 0 where
  pub legal : IfSome rows (λ all. Legal all)
  pub holds : HoldsSeats rows held olds news
  pub settled : IsSettled olds news
  pub losses : length olds ≡ seats → sum_by (λ new. new.losses) news ≤ faults
