-- What contracts see of a store on several machines, and what goes on in it (own).
use Rattle.std.specs.Prelude.{ℕ, ◌+◌, ◌-◌, ◌^◌, ◌==◌, ◌&&◌, not, nat_le, nat_lt, Bool, true, false, if◌then◌else◌, List, [], ◌∷◌, ◌++◌, length, Option, Some, None, slice_get, slice_set}
use Rattle.engine_core.specs.declared.txns.Act.{Act}
use Rattle.engine_core.specs.declared.txns.Act.TheVariants as acts
use Rattle.engine_core.specs.declared.txns.Event.{Event}
use Rattle.engine_core.specs.declared.txns.Event.TheVariants as events

-- a transaction: where the owner's key stands at this revision it does this, and else nothing
pub record TxnData : Type 0 where
  pub fence : ℕ
  pub act : Act

-- a board in a store, as who asks here sees it
pub record World : Type 0 where
  pub ours : Bool  -- who asks here put the owner's key last
  pub fence : ℕ  -- the revision at which the owner's key was put
  pub base : ℕ  -- how many rows there were when it went to another
  pub rows : List (List ℕ)
  pub revision : ℕ  -- how often something was put
  pub late : List TxnData  -- what was asked here and not answered, of which each may be done yet

-- a row under a serial, in the place of the one that is there, or behind the last
abbrev pub put_at : ℕ → List ℕ → List (List ℕ) → List (List ℕ)
put_at serial body rows =
    if nat_lt serial (length rows) then slice_set rows serial body else rows ++ body ∷ []

-- the owner's key is put; the rows that another one has found are those that were there when the
-- board went from who asks here to another
abbrev pub owned : Bool → World → World
owned ours w = record {
  ours = ours;
  fence = w.revision + 1;
  base = if w.ours then length w.rows else w.base;
  rows = w.rows;
  revision = w.revision + 1;
  late = w.late;
}

-- a row is put
abbrev pub with_row : ℕ → List ℕ → World → World
with_row serial body w = record {
  ours = w.ours;
  fence = w.fence;
  base = w.base;
  rows = put_at serial body w.rows;
  revision = w.revision + 1;
  late = w.late;
}

-- something else is put
abbrev pub with_other : World → World
with_other w = record {
  ours = w.ours;
  fence = w.fence;
  base = w.base;
  rows = w.rows;
  revision = w.revision + 1;
  late = w.late;
}

-- a transaction without an answer is under way
abbrev pub with_late : TxnData → World → World
with_late t w = record {
  ours = w.ours;
  fence = w.fence;
  base = w.base;
  rows = w.rows;
  revision = w.revision;
  late = w.late ++ t ∷ [];
}

-- a revision is a number of 64 bits: at the greatest one nothing is put any more
abbrev pub has_room : World → Bool
has_room w = nat_lt w.revision (2 ^ 64 - 1)

-- what a transaction does
abbrev pub acted : Act → World → World
acted acts.Take w = owned true w
acted (acts.Put serial body) w = with_row serial body w

-- a transaction under this revision is done now
abbrev pub is_done : ℕ → World → Bool
is_done fence w = (w.fence == fence) && has_room w

-- a transaction, done or not
abbrev pub after_txn : TxnData → World → World
after_txn t w = if is_done t.fence w then acted t.act w else w

-- a late one
abbrev pub after_late : Option TxnData → World → World
after_late None w = w
after_late (Some t) w = after_txn t w

-- the board is another's, who found no row under this serial when it took it, and no gap comes
abbrev pub is_others : ℕ → World → Bool
is_others serial w =
    not w.ours && (nat_le w.base serial && (nat_le serial (length w.rows) && has_room w))

-- one event
abbrev pub happened : Event → World → World
happened (events.Late place) w = after_late (slice_get w.late place) w
happened events.Taken w = if has_room w then owned false w else w
happened (events.Wrote serial body) w =
    if is_others serial w then with_row serial body w else w
happened events.Other w = if has_room w then with_other w else w

-- events, one after the other
abbrev pub elapsed : List Event → World → World
elapsed [] w = w
elapsed (event ∷ more) w = elapsed more (happened event w)
