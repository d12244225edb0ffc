-- Steps of the code; no public clause cites them.
-- Searches from neighbour to neighbour, which meet, or end with a group of their own (own).
use Rattle.std.specs.Prelude.{◌≡◌, ◌≢◌, ◌⊎◌, ◌↔◌, ◌+◌, ◌++◌, ◌≤◌, ℕ, Bool, true, false, List, Contains, length, Option, None, Some, IsSome}
use Rattle.std.specs.FinMap.{get, remove}
use Rattle.std.specs.List.{IsDistinct}
use Rattle.std.specs.Map.{keys_of}
use Rattle.geda_geom.specs.declared.conductor.Key.{Key}
use Rattle.touch_index.specs.Index.{IndexData, IsNeighbour}
use Rattle.touch_index.specs.steps.Sifting.{is_same_key}
use Rattle.net_flood.specs.Grouping.{Conductors, InGroup}
use Rattle.net_flood.specs.declared.search.Search.{Search}
use Rattle.net_flood.specs.steps.Partition.{Heads, head_at}

-- the key is the one that may be named
abbrev pub is_that : Option Key → Key → Bool
is_that None q = false
is_that (Some key) q = is_same_key key q

-- the conductors without the one that is passed over
abbrev pub passing : Option Key → Conductors → Conductors
passing None cs = cs
passing (Some key) cs = remove cs key

-- a key was found, under this head
abbrev pub IsUnder : Heads → Key → Key → Type 0
IsUnder found h q = head_at found q ≡ Some h

-- a key was found
abbrev pub IsFound : Heads → Key → Type 0
IsFound found q = IsSome (head_at found q)

-- a key was found, under another head than the one that may be named
abbrev pub IsParted : Option Key → Heads → Key → Type 0
IsParted start found q = (h : Key) × IsUnder found h q × (is_that start h ≡ false)

-- no key was found twice
abbrev pub AreUnique : Heads → Type 0
AreUnique found = IsDistinct is_same_key (keys_of found)

-- each head is under itself, and a chain leads from it to each key under it
pub record IsPlaced (cs : Conductors) (found : Heads) : Type 0 where
  pub own : (h q : Key) → IsUnder found h q → IsUnder found h h
  pub sound : (h q : Key) → IsUnder found h q → InGroup cs h q

-- both were found, under one head
abbrev pub AreUnder : Heads → Key → Key → Type 0
AreUnder found k q = (h : Key) × IsUnder found h k × IsUnder found h q

-- a neighbour of a key that was found is under its head, unless the key waits
abbrev pub AreLinked : Conductors → (Key → Type 0) → Heads → Type 0
AreLinked cs Waits found = (k q : Key) → IsNeighbour (get cs) k q → IsFound found k
    → Waits k ⊎ AreUnder found k q

-- more keys were found, which are some of these
pub record Grows (New : Key → Type 0) (found after : Heads) : Type 0 where
  pub later : (q : Key) → IsFound after q → IsFound found q ⊎ New q
  pub unique : AreUnique found → AreUnique after
  pub more : length found ≤ length after

-- what a search has found is what stands under its start
abbrev pub IsRow : Search → Heads → Type 0
IsRow s found = (q : Key) → Contains s.row.items q ↔ IsUnder found s.start q

-- and what waits is among it
pub record IsSearch (s : Search) (found : Heads) : Type 0 where
  pub row : IsRow s found
  pub waits : (q : Key) → Contains s.waiting.items q → IsUnder found s.start q

-- a search has looked at some keys: those that were not found are under its start now, and wait;
-- it has met another search where one of them was found by that
pub record Looks (Near : Key → Type 0) (met : Bool) (s t : Search) (found after : Heads)
    : Type 0 where
  pub start : t.start ≡ s.start
  pub kept : (h q : Key) → IsUnder found h q → IsUnder after h q
  pub later : (h q : Key) → IsUnder after h q → IsUnder found h q ⊎ ((h ≡ s.start) × Near q)
  pub first : (q : Key) → Contains s.waiting.items q → Contains t.waiting.items q
  pub news : (q : Key) → IsFound after q → IsFound found q ⊎ Contains t.waiting.items q
  pub search : IsSearch s found → IsSearch t after
  pub links : (q : Key) → Near q
      → (h : Key) × IsUnder after h q × ((h ≡ s.start) ⊎ (met ≡ true))
  pub meets : met ≡ true → (q : Key) × Near q × (h : Key) × IsUnder after h q × (h ≢ s.start)

-- a search has begun at a key
pub record Begins (key : Key) (s : Search) (found after : Heads) : Type 0 where
  pub start : s.start ≡ key
  pub kept : (h q : Key) → IsUnder found h q → IsUnder after h q
  pub later : (h q : Key) → IsUnder after h q → IsUnder found h q ⊎ ((h ≡ key) × (q ≡ key))
  pub here : IsUnder after key key
  pub news : (q : Key) → IsFound after q → IsFound found q ⊎ Contains s.waiting.items q
  pub search : ((q : Key) → ¬ (IsUnder found key q)) → IsSearch s after

-- some keys are under one head now
pub record Moves (head : Key) (keys : List Key) (found after : Heads) : Type 0 where
  pub moved : (q : Key) → Contains keys q → IsUnder after head q
  pub kept : (q : Key) → ¬ (Contains keys q) → head_at after q ≡ head_at found q

-- the first few keys are under one head now
pub record IsMoving (head : Key) (keys : List Key) (found mid : Heads) : Type 0 where
  pub grows : Grows (λ q. ⊥) found mid
  pub moves : Moves head keys found mid

-- all that one search has found is put to what another has found
pub record Absorbs (large small last : Search) (found after : Heads) : Type 0 where
  pub start : last.start ≡ large.start
  pub joined : (q : Key) → IsUnder found large.start q ⊎ IsUnder found small.start q
      → IsUnder after large.start q
  pub kept : (h q : Key) → IsUnder found h q → h ≢ small.start → IsUnder after h q
  pub later : (h q : Key) → IsUnder after h q → ((h ≡ large.start) × IsUnder found small.start q)
      ⊎ (IsUnder found h q × (h ≢ small.start))
  pub row : IsRow last after
  pub waiting : last.waiting.items ≡ large.waiting.items ++ small.waiting.items

-- two searches are one, under the start of either
pub record Meets (first second last : Search) (found after : Heads) : Type 0 where
  pub start : (last.start ≡ first.start) ⊎ (last.start ≡ second.start)
  pub joined : (q : Key) → IsUnder found first.start q ⊎ IsUnder found second.start q
      → IsUnder after last.start q
  pub kept : (h q : Key) → IsUnder found h q → h ≢ first.start → h ≢ second.start
      → IsUnder after h q
  pub later : (h q : Key) → IsUnder after h q
      → ((h ≡ last.start) × (IsUnder found first.start q ⊎ IsUnder found second.start q))
      ⊎ (IsUnder found h q × ((h ≢ first.start) × (h ≢ second.start)))
  pub row : IsRow last after
  pub waiting : last.waiting.items ≡ first.waiting.items ++ second.waiting.items

-- a chain leads to a key from one that was found
abbrev pub Reaches : Conductors → Heads → Key → Type 0
Reaches cs found q = (s : Key) × IsFound found s × InGroup cs s q

-- a chain leads to a key from one of a list
abbrev pub IsReached : Conductors → List Key → Key → Type 0
IsReached cs near q = (s : Key) × Contains near s × InGroup cs s q

-- those of the first few neighbours that are not passed over were looked at
pub record IsAsking (passed : Option Key) (few : List Key) (met : Bool) (s t : Search)
    (found mid : Heads) : Type 0 where
  pub grows : Grows (λ q. Contains few q × (is_that passed q ≡ false)) found mid
  pub looks : Looks (λ q. Contains few q × (is_that passed q ≡ false)) met s t found mid
  pub count : length t.waiting.items + length found ≤ length s.waiting.items + length mid

-- two searches have met, or one of them has ended
pub record Races (cs : Conductors) (last : Search) (found after : Heads) : Type 0 where
  pub placed : IsPlaced cs after
  pub linked : AreLinked cs (Contains last.waiting.items) after
  pub search : IsSearch last after
  pub there : IsUnder after last.start last.start
  pub kept : (q : Key) → IsFound found q → IsFound after q

-- two searches in turn, before the next query, which the first one makes
pub record IsRacing (cs : Conductors) (before now : IndexData) (first second : Search)
    (found mid : Heads) (most : ℕ) : Type 0 where
  pub same : now.conductors ≡ before.conductors
  pub unique : AreUnique mid
  pub grows : Grows (Reaches cs found) found mid
  pub placed : IsPlaced cs mid
  pub linked : AreLinked cs
      (λ q. Contains first.waiting.items q ⊎ Contains second.waiting.items q) mid
  pub search_first : IsSearch first mid
  pub search_second : IsSearch second mid
  pub first_there : IsUnder mid first.start first.start
  pub second_there : IsUnder mid second.start second.start
  pub apart : second.start ≢ first.start
  pub kept : (q : Key) → IsFound found q → IsFound mid q
  pub count : now.asked + (length first.waiting.items + length second.waiting.items)
      + length found ≤ most + length mid

-- searches from the first few keys, of which the last goes on
pub record IsSearching (cs : Conductors) (before now : IndexData) (near few : List Key)
    (last : Search) (mid : Heads) : Type 0 where
  pub same : now.conductors ≡ before.conductors
  pub unique : AreUnique mid
  pub reached : (q : Key) → IsFound mid q → IsReached cs near q
  pub placed : IsPlaced cs mid
  pub linked : AreLinked cs (Contains last.waiting.items) mid
  pub search : IsSearch last mid
  pub there : IsUnder mid last.start last.start
  pub starts : (q : Key) → Contains few q → IsFound mid q
  pub count : now.asked + length last.waiting.items ≤ before.asked + length mid

-- all keys of a list were found; what was found is under one head with its neighbours, unless it
-- is under the one that may be named
pub record Searches (cs : Conductors) (near : List Key) (start : Option Key) (found : Heads)
    : Type 0 where
  pub placed : IsPlaced cs found
  pub linked : AreLinked cs (λ k. head_at found k ≡ start) found
  pub starts : (q : Key) → Contains near q → IsFound found q
