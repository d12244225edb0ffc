-- Steps of the code; no public clause cites them.
-- Each conductor of the map stands in the grid, and a few of those near stand for all (own).
use Rattle.std.specs.Prelude.{◌≡◌, ◌⊎◌, ◌==◌, ◌&&◌, cond, Bool, List, Contains, Option, Some}
use Rattle.std.specs.Map.{lookup}
use Rattle.geda_geom.specs.declared.conductor.Key.{Key}
use Rattle.geda_geom.specs.declared.conductor.Conductor.{Conductor}
use Rattle.touch_index.specs.declared.grid.Grid.{Grid}
use Rattle.touch_index.specs.steps.Grid.{Covers}
use Rattle.touch_index.specs.Index.{DoTouch}

-- keys with their conductors, in any order
abbrev pub Entries : Type 0
Entries = List (Key × Conductor)

abbrev pub is_same_key : Key → Key → Bool
is_same_key a b = (a.id == b.id) && (a.place == b.place)

-- what stands at a key
abbrev pub conductor_at : Entries → Key → Option Conductor
conductor_at es k = lookup (is_same_key k) es

-- the second entries are the first ones, but for what stands at the key
abbrev pub DifferAt : Key → Option Conductor → Entries → Entries → Type 0
DifferAt key value es fs = (q : Key)
    → conductor_at fs q ≡ cond (is_same_key key q) value (conductor_at es q)

-- the grid has each conductor
abbrev pub IsIndexed : Entries → Grid → Type 0
IsIndexed es grid = (k : Key) (c : Conductor) → conductor_at es k ≡ Some c → Covers grid c k

-- one of a few keys has a conductor that touches that of the key
abbrev pub IsBesideOne : (Key → Option Conductor) → List Key → Key → Type 0
IsBesideOne at few q = (k : Key) × Contains few k × DoTouch (at k) (at q)

-- some of the keys are left; each other one touches one that is
pub record StandForAll (at : Key → Option Conductor) (left keys : List Key) : Type 0 where
  pub some : (q : Key) → Contains left q → Contains keys q
  pub all : (q : Key) → Contains keys q → Contains left q ⊎ IsBesideOne at left q
