-- What contracts see of the pen, what a step does to it, and what an edit does to its seat (own).
use Rattle.std.specs.Prelude.{◌≡◌, ◌⊎◌, ◌≤◌, ◌+◌, ℕ, min, List, [], ◌∷◌, ◌++◌, length, take, Option, Some, None, IfSome}
use mathlib.Core.List.{IsPrefix}
use Rattle.geda_defs.specs.Causes.{HasRisen}
use Rattle.project_model.specs.declared.change.Change.{Change}
use Rattle.edit_entries.specs.Entries.{EntryData}
use Rattle.edit_rules.specs.declared.verdict.Verdict.TheVariants as verdicts
use Rattle.keeper_core.specs.declared.reply.Reply.{Reply}
use Rattle.keeper_core.specs.declared.reply.Reply.TheVariants as replies
use Rattle.hall_log.specs.Histories.{MayFollow}
use Rattle.hall_core.specs.Histories.{IsJudged, first_id_at}
use Rattle.hall_core.specs.BoardSteps.{StepData}
use Rattle.hall_core.specs.Seats.{SeatData}

-- what a keeper tells, where there is one
abbrev pub rows_of : {K : Type 0} → (K → Option (List EntryData)) → Option K
    → Option (List EntryData)
rows_of rows (Some k) = rows k
rows_of rows None = None

-- its count of faults, or else this one
abbrev pub faults_of : {K : Type 0} → (K → ℕ) → ℕ → Option K → ℕ
faults_of faults other (Some k) = faults k
faults_of faults other None = other

-- the history, the prefix of it that is published, what waits beyond it and the change that no
-- writer has yet; the keeper's rows and faults; how many faults all seats together were told
pub record PenData : Type 0 where
  pub history : List EntryData
  pub shown : List EntryData
  pub waiting : List StepData
  pub change : Option Change
  pub rows : Option (List EntryData)
  pub faults : ℕ
  pub total : ℕ

-- told rows are the history, and each fault that was told was one of the keeper
pub record IsPen (h : List EntryData) (rows : Option (List EntryData)) (faults total : ℕ)
    : Type 0 where
  pub kept : IfSome rows (λ all. all ≡ h)
  pub bound : total ≤ faults

-- all is as before, but for what is published
pub record IsSameButShown (old new : PenData) : Type 0 where
  pub history : new.history ≡ old.history
  pub rows : new.rows ≡ old.rows
  pub faults : new.faults ≡ old.faults
  pub total : new.total ≡ old.total

-- all is published, and this is the length of the history
abbrev pub IsFront : PenData → ℕ → Type 0
IsFront pen front =
    (pen.shown ≡ pen.history) × (pen.waiting ≡ []) × (pen.change ≡ None)
    × (front ≡ length pen.history)

-- the total stays, and the keeper's count has not fallen
abbrev pub TellsNoFault : PenData → PenData → Type 0
TellsNoFault old new = (new.total ≡ old.total) × (old.faults ≤ new.faults)

-- the pen answers the entry
abbrev pub Steps : PenData → EntryData → Reply → PenData → Type 0
Steps old e (replies.Done serial first_id front) new =
    MayFollow old.history e
    × (new.history ≡ old.history ++ e ∷ []) × (serial ≡ length old.history)
    × (first_id ≡ first_id_at new.history serial)
    × IsFront new front × TellsNoFault old new
Steps old e (replies.Repeat serial first_id front) new =
    IsJudged old.history e (verdicts.Repeat serial)
    × (new.history ≡ old.history) × (first_id ≡ first_id_at new.history serial)
    × IsFront new front × TellsNoFault old new
Steps old e (replies.Refused fault front) new =
    IsJudged old.history e (verdicts.Refused fault)
    × (new.history ≡ old.history)
    × IsFront new front × TellsNoFault old new
Steps old e (replies.KeeperFault front) new =
    MayFollow old.history e
    × (new.history ≡ old.history)
    × IsFront new front × (new.total ≡ old.total)
    × HasRisen old.faults new.faults × HasRisen new.total new.faults
Steps old e replies.NoEntry new = ⊥
Steps old e replies.NoMemory new =
    ((new.history ≡ old.history) ⊎ (new.history ≡ old.history ++ e ∷ []))
    × TellsNoFault old new

-- the seat is answered about the entry
abbrev pub Edits : SeatData → EntryData → Reply → SeatData → Type 0
Edits old e (replies.Done serial first_id front) new =
    IsPrefix old.seen (take serial new.seen)
    × (new.seen ≡ take serial new.seen ++ e ∷ []) × MayFollow (take serial new.seen) e
    × (first_id ≡ first_id_at new.seen serial)
    × (front ≡ length new.seen) × (new.losses ≡ old.losses)
Edits old e (replies.Repeat serial first_id front) new =
    IsPrefix old.seen new.seen
    × IsJudged new.seen e (verdicts.Repeat serial)
    × (first_id ≡ first_id_at new.seen serial)
    × (front ≡ length new.seen) × (new.losses ≡ old.losses)
Edits old e (replies.Refused fault front) new =
    IsPrefix old.seen new.seen
    × IsJudged new.seen e (verdicts.Refused fault)
    × (front ≡ length new.seen) × (new.losses ≡ old.losses)
Edits old e (replies.KeeperFault front) new =
    IsPrefix old.seen new.seen
    × MayFollow new.seen e
    × (front ≡ length new.seen) × (new.losses ≡ min (old.losses + 1) 4294967295)
Edits old e replies.NoEntry new =
    IsPrefix old.seen new.seen
    × HasRisen old.refusals new.refusals × (new.losses ≡ old.losses)
Edits old e replies.NoMemory new = IsPrefix old.seen new.seen × (new.losses ≡ old.losses)
