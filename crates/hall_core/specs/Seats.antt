-- What contracts see of a seat, of its door, and of where doors come from (own).
use Rattle.std.specs.Prelude.{◌≡◌, ◌≤◌, ◌⊎◌, ℕ, Bool, true, false, List, [], ◌∷◌}
use mathlib.Core.List.{IsPrefix}
use Rattle.geda_defs.specs.Causes.{HasRisen}
use Rattle.edit_entries.specs.Entries.{EntryData}

-- how often a place was refused
pub record PlacesData : Type 0 where
  pub refused : ℕ

-- how often the entry to the board was refused
pub record DoorData : Type 0 where
  pub refusals : ℕ

-- the entries that it has seen, how often it was told that the keeper failed, and how often it was
-- refused its entry to the board
pub record SeatData : Type 0 where
  pub seen : List EntryData
  pub losses : ℕ
  pub refusals : ℕ

-- the seat is told of these entries; it has then seen them, or was refused
abbrev pub Learns : SeatData → List EntryData → Bool → SeatData → Type 0
Learns old told true new =
    (new.seen ≡ told) × IsPrefix old.seen told
    × (new.losses ≡ old.losses) × (new.refusals ≡ old.refusals)
Learns old told false new =
    (new.seen ≡ old.seen) × (new.losses ≡ old.losses)
    × HasRisen old.refusals new.refusals × (old.refusals ≤ new.refusals)

-- of these seats the refusals of one rose
abbrev pub OneHasRisen : List SeatData → List SeatData → Type 0
OneHasRisen [] news = ⊥
OneHasRisen (old ∷ olds) [] = ⊥
OneHasRisen (old ∷ olds) (new ∷ news) =
    HasRisen old.refusals new.refusals ⊎ OneHasRisen olds news

-- a seat that was refused nothing and has lost nothing
abbrev pub HasLostNothing : SeatData → Type 0
HasLostNothing seat = (seat.losses ≡ 0) × (seat.refusals ≡ 0)

-- a seat that has seen these entries, was refused nothing and has lost nothing
abbrev pub IsNew : List EntryData → SeatData → Type 0
IsNew list seat = (seat.seen ≡ list) × (seat.losses ≡ 0) × (seat.refusals ≡ 0)
