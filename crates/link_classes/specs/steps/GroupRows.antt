-- Steps of the code; no public clause cites them.
-- The rows of keys that have groups (own).
use Rattle.std.specs.Prelude.{◌≡◌, ◌<◌, ◌+◌, ◌*◌, ◌^◌, ℕ, List, length, slice_index_or}
use Rattle.geda_geom.specs.declared.conductor.Key.{Key}

-- the row of a key stands at this place
pub record IsRow (rows : List (Key × Key)) (key : Key) (at : ℕ) : Type 0 where
  pub within : at < length rows
  pub is : (d : Key × Key) → (slice_index_or rows at d).0 ≡ key

-- a key as one number, of which the id is the lower half
abbrev pub key_number : Key → ℕ
key_number key = key.place * 2 ^ 32 + key.id
