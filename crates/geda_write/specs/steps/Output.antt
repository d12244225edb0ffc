-- Steps of the code; no public clause cites them.
-- What goes out, piece by piece.
use Rattle.std.specs.Prelude.{ℕ, ◌-◌, ◌≡◌, List, ◌++◌, length, Result, OnOk}

-- what an output has got: the bytes, or how many further ones it can count
pub data Got : Type 0 where
  Written : List ℕ → Got
  Spare : ℕ → Got

-- with these bytes behind it
unfoldable pub more : Got → List ℕ → Got
more (Written bytes) piece = Written (bytes ++ piece)
more (Spare count) piece = Spare (count - length piece)

-- unless a fault comes, these bytes stand behind what was there
abbrev pub Adds : {T E : Type 0} → Result T E → Got → Got → List ℕ → Type 0
Adds result old new piece = OnOk result (new ≡ more old piece)
