-- Steps of the code; no public clause cites them.
-- The first places of groups in the present instance, where instances never fall (own).
use Rattle.std.specs.Prelude.{◌≡◌, ◌<◌, ◌≤◌, ◌+◌, ◌-◌, ◌⊎◌, ℕ, nat_lt, if◌then◌else◌, replicate}
use Rattle.std.specs.Prelude.{List, ◌++◌, Option, Some, None, length, slice_index, slice_index_or}
use Rattle.std.specs.Prelude.{slice_set, Vec, vec_capacity, vec_len}
use Rattle.std.specs.Global.{Global}
use Rattle.std.specs.Option.{option_to_list}
use Rattle.geda_geom.specs.declared.conductor.Key.{Key}
use Rattle.flat_rows.specs.Keyed.{Keyed, keyed_at}
use Rattle.link_classes.specs.declared.runs.RunPlaces.{RunPlaces}
use Rattle.link_classes.specs.steps.FirstPlaces.{TiesKeys}
use Rattle.link_classes.specs.steps.GroupPlaces.{InstanceGroup}

-- the place that an entry says for a row, if it is behind the start
abbrev pub noted_in : ℕ → List ℕ → ℕ → Option ℕ
noted_in start entries at =
    if nat_lt start (slice_index entries at) then Some (slice_index entries at - 1) else None

-- the entries where a row without a place gets this one
abbrev pub marked : ℕ → ℕ → ℕ → List ℕ → List ℕ
marked start at place entries =
    if nat_lt start (slice_index entries at)
    then entries
    else slice_set entries at (place + 1)

-- the first place of the group of a row
abbrev pub noted : RunPlaces → ℕ → Option ℕ
noted p at = noted_in p.start p.entries.items at

-- there is none yet for any of so many rows
pub record AreNone (rows : ℕ) (p : RunPlaces) : Type 0 where
  pub start : p.start ≡ 0
  pub entries : p.entries.items ≡ replicate rows 0

-- the present instance is this one, and starts here if it is a later one
pub record Enters (i place : ℕ) (old new : RunPlaces) : Type 0 where
  pub instance : new.instance ≡ i
  pub start : ((old.instance ≡ i) × (new.start ≡ old.start))
      ⊎ ((old.instance < i) × (new.start ≡ place))

-- a row without a place has this one
pub record Marks (at place : ℕ) (old new : RunPlaces) : Type 0 where
  pub instance : new.instance ≡ old.instance
  pub start : new.start ≡ old.start
  pub entries : new.entries.items ≡ marked old.start at place old.entries.items

-- there are as many pairs or one more, with room for as many as before
pub record HasRoom (old new : Vec (ℕ × ℕ) Global) : Type 0 where
  pub few : vec_len new ≤ vec_len old + 1
  pub capacity : vec_capacity new ≡ vec_capacity old

-- the first place of each group, and the pairs, for keys with places below a count: those of the
-- present instance are noted by rows, and there is none of a later one
pub record Keeps (rows : List (Key × Key)) (count : ℕ) (p : RunPlaces) (pairs : List (ℕ × ℕ))
    (keyed : List (Keyed InstanceGroup)) : Type 0 where
  pub first : InstanceGroup → Option ℕ
  pub ties : TiesKeys first pairs keyed
  pub now : (at : ℕ) (d : Key × Key) → at < length rows
      → first (p.instance, (slice_index_or rows at d).0) ≡ noted p at
  pub later : (q : InstanceGroup) → p.instance < q.0 → first q ≡ None
  pub long : length p.entries.items ≡ length rows
  pub low : p.start ≤ count
  pub early : (at : ℕ) → slice_index p.entries.items at ≤ count

-- so they are kept with one more conductor, of this group if it has one
abbrev pub Ties : List (Key × Key) → ℕ → Option InstanceGroup → RunPlaces → List (ℕ × ℕ)
    → RunPlaces → List (ℕ × ℕ) → Type 0
Ties rows place group old old_pairs new new_pairs = (keyed : List (Keyed InstanceGroup))
    → Keeps rows place old old_pairs keyed
    → Keeps rows (place + 1) new new_pairs (keyed ++ keyed_at place (option_to_list group))
