-- What the owner of a board may rest on, whatever others do (own).
use Rattle.std.specs.Prelude.{◌≡◌, ℕ, ◌+◌, ◌<◌, ◌≤◌, ◌⊎◌, Bool, true, false, length}
use Rattle.std.specs.List.{AllByRecursion}
use Rattle.engine_core.specs.Worlds.{TxnData, World}
use Rattle.engine_core.specs.declared.txns.Act.{Act}
use Rattle.engine_core.specs.declared.txns.Act.TheVariants as acts

-- what may still be done under the owner's revision: where nothing is in doubt nothing, else to
-- take the board again, and to put the row behind those that are vouched for
abbrev pub IsInDoubt : Bool → ℕ → Act → Type 0
IsInDoubt false count act = ⊥
IsInDoubt true count acts.Take = Unit {0}
IsInDoubt true count (acts.Put serial body) = serial ≡ count

-- a transaction that was not answered: it was asked under an older revision, or is in doubt
abbrev pub IsLate : ℕ → Bool → ℕ → TxnData → Type 0
IsLate fence doubt count t = (t.fence < fence) ⊎ ((t.fence ≡ fence) × IsInDoubt doubt count t.act)

-- an owner that took the board at this revision vouches for so many rows: whoever has taken it
-- since has found them, and while it has the board itself there is at most one row more, which was
-- not answered
pub record IsHolding (under : ℕ) (doubt : Bool) (count : ℕ) (w : World) : Type 0 where
  pub reached : under ≤ w.fence
  pub now : w.fence ≤ w.revision
  pub own : w.fence ≡ under → w.ours ≡ true
  pub rows : count ≤ length w.rows
  pub base : w.ours ≡ false → count ≤ w.base
  pub most : w.ours ≡ true → length w.rows ≤ count + 1
  pub late : AllByRecursion (IsLate under doubt count) w.late

-- nothing was asked here under a revision that is still to come
pub record IsFresh (w : World) : Type 0 where
  pub now : w.fence ≤ w.revision
  pub late : AllByRecursion (λ t. t.fence ≤ w.fence) w.late
