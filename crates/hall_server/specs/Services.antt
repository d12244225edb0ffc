-- What a service has seen, and what it answers (own).
use Rattle.std.specs.Prelude.{◌≡◌, ◌≢◌, ⊤, ℕ, ◌+◌, min, false, true, List, [], ◌∷◌, ◌++◌, length, Option, Ok, Err}
use Rattle.edit_entries.specs.Entries.{EntryData}
use Rattle.edit_rules.specs.Histories.{changes}
use Rattle.edit_rules.specs.Verdicts.{Legal, verdict}
use Rattle.edit_rules.specs.declared.verdict.Verdict.TheVariants.{Accept, Repeat, Refused}
use Rattle.keeper_core.specs.declared.reply.Reply.{Reply}
use Rattle.keeper_core.specs.declared.reply.Reply.TheVariants as replies
use Rattle.reports.specs.declared.what.What.{What}
use Rattle.reports.specs.declared.fault.ReportFault.TheVariants as faults
use Rattle.web_heads.specs.Links.{IsPrefixOf}
use Rattle.web_requests.specs.Answers.{ReportComesTo, first_id, is_behind}
use Rattle.hall_server.specs.declared.shown.Shown.{Shown}
use Rattle.hall_server.specs.declared.shown.Shown.TheVariants as shown

-- the last value of a count of losses
abbrev pub most_losses : ℕ
most_losses = 4294967295

-- one more loss, or as many as there may be
abbrev pub one_more_loss : ℕ → ℕ
one_more_loss losses = min (losses + 1) most_losses

-- what is seen and counted
pub record Stand : Type 0 where
  pub seen : List EntryData
  pub losses : ℕ
  pub refusals : ℕ

-- these entries and counts
abbrev pub stand : List EntryData → ℕ → ℕ → Stand
stand seen losses refusals =
    record { seen = seen; losses = losses; refusals = refusals }

-- what is seen grows, and stays legal
abbrev pub Grows : List EntryData → List EntryData → Type 0
Grows old new = IsPrefixOf old new × (Legal old → Legal new)

-- the history ends with this entry
abbrev pub IsLast : EntryData → List EntryData → Type 0
IsLast entry h = (before : List EntryData) × (h ≡ before ++ entry ∷ [])

-- the entry may follow the history
abbrev pub IsAcceptedAfter : List EntryData → EntryData → Type 0
IsAcceptedAfter h entry = verdict h entry ≡ Accept (record { items = changes h entry.edit })

-- the entry stands at this serial, and this is its first id
abbrev pub StandsAt : List EntryData → EntryData → ℕ → ℕ → Type 0
StandsAt h entry serial id = (verdict h entry ≡ Repeat serial) × (id ≡ first_id h serial)

-- what the reply to an edit says of what is seen after it
abbrev pub IsEditReply : List EntryData → EntryData → Reply → Type 0
IsEditReply h entry (replies.Done serial id front) =
    (front ≡ length h) × StandsAt h entry serial id × IsLast entry h
IsEditReply h entry (replies.Repeat serial id front) =
    (front ≡ length h) × StandsAt h entry serial id
IsEditReply h entry (replies.Refused fault front) =
    (front ≡ length h) × (verdict h entry ≡ Refused fault)
IsEditReply h entry (replies.KeeperFault front) = (front ≡ length h) × IsAcceptedAfter h entry
IsEditReply h entry replies.NoEntry = ⊤
IsEditReply h entry replies.NoMemory = ⊤

-- an edit that could not be kept is one more loss, and nothing else is
abbrev pub EditLosses : ℕ → ℕ → Reply → Type 0
EditLosses before now (replies.KeeperFault front) = now ≡ one_more_loss before
EditLosses before now reply = now ≡ before

-- what a report says of what is seen after it
abbrev pub IsShownReport : List EntryData → Option ℕ → What → Shown → Type 0
IsShownReport h least what (shown.Text front body) =
    (front ≡ length h) × (is_behind least (length h) ≡ false) × ReportComesTo h what (Ok body)
IsShownReport h least what (shown.Behind front) =
    (front ≡ length h) × (is_behind least (length h) ≡ true)
IsShownReport h least what (shown.Fault front fault) =
    (front ≡ length h) × (is_behind least (length h) ≡ false) × ReportComesTo h what (Err fault)
    × (fault ≢ faults.NoMemory)
IsShownReport h least what shown.NoEntry = ⊤
IsShownReport h least what shown.NoMemory = ⊤
