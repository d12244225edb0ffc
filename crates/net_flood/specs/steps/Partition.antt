-- Steps of the code; no public clause cites them.
-- Keys in groups, each under one of its keys, its head (own).
use Rattle.std.specs.Prelude.{◌≡◌, ◌≢◌, ◌⊎◌, ◌↔◌, cond, ℕ, false, List, Contains, length, Option, None, Some, IsTrue, is_some}
use Rattle.std.specs.BTreeSet.{BTreeSet, contains}
use Rattle.std.specs.List.Sorted.{IsStrictlySortedBy}
use Rattle.std.specs.Map.{lookup}
use Rattle.std.specs.Ordering.{is_gt}
use Rattle.geda_geom.specs.declared.conductor.Key.{Key}
use Rattle.geda_geom.specs.Keys.{by_key}
use Rattle.touch_index.specs.steps.Sifting.{is_same_key}
use Rattle.net_flood.specs.declared.partition.Partition.{Partition}

-- the set has the key, or has it not
abbrev pub Has : BTreeSet Key → Key → Type 0
Has s q = IsTrue (contains by_key s q)

abbrev pub Lacks : BTreeSet Key → Key → Type 0
Lacks s q = contains by_key s q ≡ false

-- keys with the heads of their groups, and heads with the members
abbrev pub Heads : Type 0
Heads = List (Key × Key)

abbrev pub Rows : Type 0
Rows = List (Key × BTreeSet Key)

-- the head of a key
abbrev pub head_at : Heads → Key → Option Key
head_at heads k = lookup (is_same_key k) heads

-- the members under a head
abbrev pub row_at : Rows → Key → Option (BTreeSet Key)
row_at rows h = lookup (is_same_key h) rows

abbrev pub IsIn : Option (BTreeSet Key) → Key → Type 0
IsIn None q = ⊥
IsIn (Some row) q = Has row q

-- under a head stands a key
abbrev pub IsMember : Rows → Key → Key → Type 0
IsMember rows h k = IsIn (row_at rows h) k

-- who is a member under which head
abbrev pub Members : Type 1
Members = Key → Key → Type 0

-- each member has its head, and each head that has members is one of them
pub record IsPartition (head : Key → Option Key) (M : Members) : Type 0 where
  pub one : (h k : Key) → M h k → head k ≡ Some h
  pub own : (h k : Key) → M h k → M h h

-- both are members under one head
abbrev pub Together : Members → Key → Key → Type 0
Together M k q = (h : Key) × M h k × M h q

-- the members and the heads of a partition
abbrev pub members_of : Partition → Members
members_of p = IsMember p.rows.entries

abbrev pub heads_of : Partition → Key → Option Key
heads_of p = head_at p.heads.entries

-- the same keys have heads
abbrev pub KeepsKeys : Partition → Partition → Type 0
KeepsKeys old new = (k : Key) → is_some (heads_of new k) ≡ is_some (heads_of old k)

-- each key but some keeps its head
abbrev pub KeepsHeads : (Key → Type 0) → Partition → Partition → Type 0
KeepsHeads Moves old new = (q : Key) → ¬ (Moves q) → heads_of new q ≡ heads_of old q

-- one more member under a head
abbrev pub AddsMember : Key → Key → Members → Members → Type 0
AddsMember h k M N = (i q : Key) → N i q ↔ (M i q ⊎ ((i ≡ h) × (q ≡ k)))

-- one key has this head, and each other key the one that it had
abbrev pub SetsHead : Key → Key → Partition → Partition → Type 0
SetsHead k h old new = (q : Key) → heads_of new q ≡ cond (is_same_key k q) (Some h) (heads_of old q)

-- one key has no head, and each other key the one that it had
abbrev pub LosesHead : Key → Partition → Partition → Type 0
LosesHead k old new = (q : Key) → heads_of new q ≡ cond (is_same_key k q) None (heads_of old q)

-- more members under a head
abbrev pub AddsAll : Key → List Key → Members → Members → Type 0
AddsAll h ks M N = (i q : Key) → N i q ↔ (M i q ⊎ ((i ≡ h) × Contains ks q))

-- a partition in which one key more is a member under a head
pub record Puts (h k : Key) (old new : Partition) : Type 0 where
  pub partition : IsPartition (heads_of new) (members_of new)
  pub adds : AddsMember h k (members_of old) (members_of new)
  pub heads : KeepsHeads (λ q. q ≡ k) old new

-- the keys of a set are the members under one more head
pub record PutsSet (keys : BTreeSet Key) (M N : Members) : Type 0 where
  pub head : Key
  pub has : Has keys head
  pub adds : AddsAll head keys.keys M N

-- the keys of a set, which were in no group, are in one
pub record PutsLeft (left : BTreeSet Key) (M N : Members) : Type 0 where
  pub kept : (k q : Key) → Together M k q → Together N k q
  pub rest : (k q : Key) → Has left k → Has left q → Together N k q
  pub sound : (k q : Key) → Together N k q → Together M k q ⊎ (Has left k × Has left q)

-- all members under one head are under another one
abbrev pub MovesTo : Key → Key → Members → Members → Type 0
MovesTo from to M N = (i q : Key) → N i q ↔ ((M i q × (i ≢ from)) ⊎ ((i ≡ to) × M from q))

-- the groups of two keys are one
pub record Joins (a b : Key) (old new : Partition) : Type 0 where
  pub partition : IsPartition (heads_of new) (members_of new)
  pub kept : (k q : Key) → Together (members_of old) k q → Together (members_of new) k q
  pub joined : Together (members_of new) a b
  pub sound : (k q : Key) → Together (members_of new) k q → Together (members_of old) k q
      ⊎ ((Together (members_of old) k a × Together (members_of old) b q)
      ⊎ (Together (members_of old) k b × Together (members_of old) a q))

-- the group of a key is taken out
pub record TakesOut (key : Key) (row : BTreeSet Key) (old new : Partition) : Type 0 where
  pub partition : IsPartition (heads_of new) (members_of new)
  pub same : (q : Key) → Has row q ↔ Together (members_of old) key q
  pub rest : (h q : Key) → members_of new h q
      ↔ (members_of old h q × ¬ (Together (members_of old) key q))

-- no key of some is before this one of them
pub record IsLeastOf (P : Key → Type 0) (least : Key) : Type 0 where
  pub member : P least
  pub first : (q : Key) → P q → is_gt (by_key least q) ≡ false

-- so many keys are among some
pub record IsSizeOf (P : Key → Type 0) (size : ℕ) : Type 0 where
  pub keys : List Key
  pub rising : IsStrictlySortedBy by_key keys
  pub same : (q : Key) → Contains keys q ↔ P q
  pub count : size ≡ length keys

-- the first few keys were put under a head
pub record IsPutting (h : Key) (keys : List Key) (old new : Partition) : Type 0 where
  pub kept : KeepsKeys old new
  pub partition : IsPartition (heads_of new) (members_of new)
  pub adds : AddsAll h keys (members_of old) (members_of new)
