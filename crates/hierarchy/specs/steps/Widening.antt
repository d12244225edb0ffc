-- Ways made longer, one step at a time (own).
use Rattle.std.specs.Prelude.{◌≡◌, ◌==◌, ◌<◌, ◌||◌, not, ℕ, Bool, true, false, if◌then◌else◌, List, [], ◌∷◌, length, filter, slice_index_or}
use Rattle.std.specs.List.{range_with_len}
use Rattle.hierarchy.specs.SheetTable.{TableSheetData}
use Rattle.hierarchy.specs.Ways.{WayData, children}

-- the children of a way that has so many steps
abbrev pub children_at : List TableSheetData → ℕ → WayData → List WayData
children_at sheets depth w = if length w.steps == depth then children sheets w else []

-- a way, and its children if it has so many steps
abbrev pub widened : List TableSheetData → ℕ → WayData → List WayData
widened sheets depth w = w ∷ children_at sheets depth w

-- marks, after those of a test were added
abbrev pub IsMarked : List Bool → List Bool → (ℕ → Bool) → Type 0
IsMarked old new test = (length new ≡ length old)
    × ((place : ℕ) → place < length old
    → slice_index_or new place false ≡ (slice_index_or old place false || test place))

-- the places without a mark
abbrev pub unmarked : List Bool → List ℕ
unmarked marks =
    filter (λ place. not (slice_index_or marks place false)) (range_with_len 0 (length marks))

-- what a place without a mark gives
abbrev pub if_unmarked : {X : Type 0} → (ℕ → X) → Bool → ℕ → List X
if_unmarked f true place = []
if_unmarked f false place = f place ∷ []
