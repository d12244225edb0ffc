-- What the keeper in memory holds, and how a call changes it (own).
use Rattle.std.specs.Prelude.{ℕ, List, Contains}
use Rattle.outside.specs.Counts.{one_more}
use Rattle.edit_entries.specs.Entries.{EntryData}

-- the rows, the numbers of the calls that fail, and how many calls there were and failed
pub record MemoryKeeperData : Type 0 where
  pub rows : List EntryData
  pub failing : List ℕ
  pub calls : ℕ
  pub faults : ℕ

-- the next call of the keeper is to fail
abbrev pub KeeperFails : MemoryKeeperData → Type 0
KeeperFails keeper = Contains keeper.failing (one_more keeper.calls)

-- the keeper with other rows
abbrev pub with_rows : MemoryKeeperData → List EntryData → MemoryKeeperData
with_rows keeper rows = record {
  rows = rows;
  failing = keeper.failing;
  calls = keeper.calls;
  faults = keeper.faults;
}

-- the keeper after a call that did not fail, with the rows that it then has
abbrev pub keeper_after_call : MemoryKeeperData → List EntryData → MemoryKeeperData
keeper_after_call keeper rows = record {
  rows = rows;
  failing = keeper.failing;
  calls = one_more keeper.calls;
  faults = keeper.faults;
}

-- the keeper after a call that failed
abbrev pub keeper_after_fault : MemoryKeeperData → MemoryKeeperData
keeper_after_fault keeper = record {
  rows = keeper.rows;
  failing = keeper.failing;
  calls = one_more keeper.calls;
  faults = one_more keeper.faults;
}
