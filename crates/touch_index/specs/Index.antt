-- The conductors of an index, and which of them touch (own).
use Rattle.std.specs.Prelude.{◌≢◌, ℕ, List, Contains, Option, Some}
use Rattle.std.specs.FinMap.{FinMap}
use Rattle.geda_defs.specs.Classes.{Joined}
use Rattle.geda_geom.specs.declared.conductor.Key.{Key}
use Rattle.geda_geom.specs.declared.conductor.Conductor.{Conductor}
use Rattle.geda_geom.specs.Keys.{by_key}
use Rattle.geda_geom.specs.Touch.{Touch}

-- the conductors by key, and how often neighbours were asked
pub record IndexData : Type 0 where
  pub conductors : FinMap by_key Conductor
  pub asked : ℕ

-- both are there and touch
abbrev pub DoTouch : Option Conductor → Option Conductor → Type 0
DoTouch (Some a) (Some b) = Touch a b
DoTouch a b = ⊥

-- by what stands at the keys, the second key is another one, and its conductor touches that of the
-- first
pub record IsNeighbour (at : Key → Option Conductor) (key other : Key) : Type 0 where
  pub apart : other ≢ key
  pub touch : DoTouch (at key) (at other)

-- two other keys than the first one, whose conductors touch
pub record AreBeside (at : Key → Option Conductor) (key first second : Key) : Type 0 where
  pub first_apart : first ≢ key
  pub second_apart : second ≢ key
  pub near : IsNeighbour at first second

-- the listed keys are neighbours of the key, and a chain of conductors that touch, none of them the
-- key's, leads from one of them to each neighbour
pub record IsSpanning (at : Key → Option Conductor) (key : Key) (keys : List Key) : Type 0 where
  pub near : (q : Key) → Contains keys q → IsNeighbour at key q
  pub all : (q : Key) → IsNeighbour at key q
      → (k : Key) × Contains keys k × Joined (AreBeside at key) k q
