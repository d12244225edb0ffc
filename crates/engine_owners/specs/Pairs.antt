-- Two owners of a board in one store, each with its own world of it (own).
use Rattle.std.specs.Prelude.{◌≡◌, ◌≤◌, ℕ, true, if◌then◌else◌, take}
use Rattle.engine_core.specs.Worlds.{TxnData, World, after_txn, happened, is_done}
use Rattle.engine_core.specs.declared.txns.Act.{Act}
use Rattle.engine_core.specs.declared.txns.Act.TheVariants as acts
use Rattle.engine_core.specs.declared.txns.Event.{Event}
use Rattle.engine_core.specs.declared.txns.Event.TheVariants as events
use Rattle.engine_board.specs.declared.hold.Hold.{Hold}

-- both see one store, and at most one of them put the owner's key last
pub record SeeOneStore (w other : World) : Type 0 where
  pub fence : w.fence ≡ other.fence
  pub rows : w.rows ≡ other.rows
  pub revision : w.revision ≡ other.revision
  pub apart : w.ours ≡ true → other.ours ≡ true → ⊥

-- what one does is this event to the other
abbrev pub seen_as : Act → Event
seen_as acts.Take = events.Taken
seen_as (acts.Put serial body) = events.Wrote serial body

-- the other's world after a transaction of the one, which is done or not
abbrev pub after_others : TxnData → World → World → World
after_others t w other = if is_done t.fence w then happened (seen_as t.act) other else other

-- who has the board, and vouches for so many rows, has found those that were there when it went
-- from the other
abbrev pub HasFound : ℕ → World → World → Type 0
HasFound count w other = w.ours ≡ true → other.base ≤ count

-- after a transaction of the one, which is an event to the other, both see one store still
pub record IsSeen (count : ℕ) (t : TxnData) (w other : World) : Type 0 where
  pub one : SeeOneStore (after_txn t w) (after_others t w other)
  pub found : HasFound count (after_txn t w) (after_others t w other)

-- all rows for which another owner vouches are vouched for, and are the same
pub record FindsAll (count : ℕ) (hold : Hold) (other v : World) : Type 0 where
  pub all : count ≤ hold.count
  pub same : take count v.rows ≡ take count other.rows
