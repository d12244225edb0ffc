-- Steps of the code; no public clause cites them.
-- The pins of each refdes, gathered in one pass over the nets.
use Rattle.std.specs.Prelude.{ℕ, if◌then◌else◌, List, [], ◌∷◌, ◌++◌, Option}
use Rattle.std.specs.Borrow.{Bor}
use Rattle.std.specs.BTreeMap.{BTreeMap, get_by}
use Rattle.std.specs.Cmp.Lexicographic.{slice_cmp}
use Rattle.std.specs.Option.{unwrap_or}
use Rattle.std.specs.Ordering.{nat_cmp}
use Rattle.std.specs.Str.{bytes_eq}
use Rattle.spice_out.specs.Pins.{PinData}

-- pins by refdes
abbrev pub PinRows : Type 0
PinRows = BTreeMap (Bor (List ℕ)) (List PinData)

-- the row of a refdes, if there is one
abbrev pub row_at : PinRows → List ℕ → Option (List PinData)
row_at rows q = get_by (λ k. slice_cmp nat_cmp q k.now) rows

-- the pins of a refdes
abbrev pub pins_at : PinRows → List ℕ → List PinData
pins_at rows q = unwrap_or (row_at rows q) []

-- the pins of q after a refdes got one more
abbrev pub taken_in : List ℕ → List ℕ → PinData → List PinData → List PinData
taken_in q refdes pin pins = if bytes_eq refdes q then pins ++ pin ∷ [] else pins
