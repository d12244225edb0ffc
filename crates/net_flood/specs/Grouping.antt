-- The groups of the conductors of one sheet: those that touch, directly or by others (own).
use Rattle.std.specs.Prelude.{◌≡◌, ◌↔◌, ℕ, Bool, false, List, Contains, IsSome, length}
use Rattle.std.specs.FinMap.{FinMap, get}
use Rattle.std.specs.List.Sorted.{IsStrictlySortedBy}
use Rattle.std.specs.Ordering.{is_gt}
use Rattle.geda_defs.specs.Classes.{Joined}
use Rattle.geda_geom.specs.declared.conductor.Key.{Key}
use Rattle.geda_geom.specs.declared.conductor.Conductor.{Conductor}
use Rattle.geda_geom.specs.Keys.{by_key}
use Rattle.touch_index.specs.Index.{IsNeighbour}

-- the conductors by key
abbrev pub Conductors : Type 0
Conductors = FinMap by_key Conductor

-- the conductors, how often neighbours were asked, and whether the groups are kept
pub record GroupsData : Type 0 where
  pub conductors : Conductors
  pub asked : ℕ
  pub fresh : Bool

-- the first key is there, and a chain of conductors that touch leads from it to the other
abbrev pub InGroup : Conductors → Key → Key → Type 0
InGroup conductors key other =
    IsSome (get conductors key) × Joined (IsNeighbour (get conductors)) key other

-- the rising list of the keys of a key's group
pub record IsGroup (conductors : Conductors) (key : Key) (keys : List Key) : Type 0 where
  pub rising : IsStrictlySortedBy by_key keys
  pub same : (q : Key) → Contains keys q ↔ InGroup conductors key q

-- how many keys a key's group has
pub record HasSize (conductors : Conductors) (key : Key) (size : ℕ) : Type 0 where
  pub keys : List Key
  pub group : IsGroup conductors key keys
  pub count : size ≡ length keys

-- the least key of a key's group
pub record IsLeast (conductors : Conductors) (key least : Key) : Type 0 where
  pub member : InGroup conductors key least
  pub first : (q : Key) → InGroup conductors key q → is_gt (by_key least q) ≡ false
