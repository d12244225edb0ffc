-- Steps of the code; no public clause cites them.
-- What searches have found is moved into groups (own).
use Rattle.std.specs.Prelude.{◌≡◌, ◌⊎◌, Contains, false, Option}
use Rattle.std.specs.BTreeSet.{BTreeSet}
use Rattle.geda_geom.specs.declared.conductor.Key.{Key}
use Rattle.net_flood.specs.declared.partition.Partition.{Partition}
use Rattle.net_flood.specs.steps.Partition.{Has, Heads, IsPartition, KeepsHeads, KeepsKeys, Lacks, heads_of, members_of}
use Rattle.net_flood.specs.steps.Search.{IsParted, IsUnder, is_that}

-- what was found is in groups under its heads, all but what is under the one that may be named
pub record PutsFound (start : Option Key) (found : Heads) (left after : BTreeSet Key)
    (old new : Partition) : Type 0 where
  pub partition : IsPartition (heads_of new) (members_of new)
  pub kept : (h q : Key) → members_of old h q → members_of new h q
  pub put : (h q : Key) → IsUnder found h q → is_that start h ≡ false → members_of new h q
  pub later : (h q : Key) → members_of new h q
      → members_of old h q ⊎ (IsUnder found h q × (is_that start h ≡ false))
  pub heads : KeepsHeads (IsParted start found) old new
  pub fewer : (q : Key) → Has after q → Has left q
  pub gone : (q : Key) → IsParted start found q → Lacks after q
  pub stays : (q : Key) → Has left q → ¬ (IsParted start found q) → Has after q

-- all but the last few of what was found was moved
pub record IsMovingFound (start : Option Key) (found rest : Heads) (left mid : BTreeSet Key)
    (old now : Partition) : Type 0 where
  pub keys : KeepsKeys old now
  pub partition : IsPartition (heads_of now) (members_of now)
  pub kept : (h q : Key) → members_of old h q → members_of now h q
  pub put : (h q : Key) → IsUnder found h q → is_that start h ≡ false
      → Contains rest (q, h) ⊎ members_of now h q
  pub later : (h q : Key) → members_of now h q
      → members_of old h q ⊎ (IsUnder found h q × (is_that start h ≡ false))
  pub heads : KeepsHeads (IsParted start found) old now
  pub fewer : (q : Key) → Has mid q → Has left q
  pub gone : (h q : Key) → IsUnder found h q → is_that start h ≡ false
      → Contains rest (q, h) ⊎ Lacks mid q
  pub stays : (q : Key) → Has left q → ¬ (IsParted start found q) → Has mid q
  pub still : (h q : Key) → Contains rest (q, h) → IsUnder found h q
