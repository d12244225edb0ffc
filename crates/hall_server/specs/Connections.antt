-- What serving a connection does (own).
use Rattle.std.specs.Prelude.{◌≡◌, ℕ, ◌+◌, ◌-◌, ◌^◌, ◌≤◌, ◌⊎◌, min, Bool, true, false, List, [], ◌++◌, length, filter, Option, Some}
use Rattle.edit_entries.specs.Entries.{EntryData}
use Rattle.web_heads.specs.declared.cut_end.CutEnd.{CutEnd}
use Rattle.web_heads.specs.Accesses.{AccessData}
use Rattle.web_heads.specs.Cuts.{MessageData, IsFinal, Cut, Begins}
use Rattle.web_heads.specs.Links.{with_front, with_end, IsAtEnd, IsPrefixOf}
use Rattle.hall_server.specs.declared.link_end.LinkEnd.{LinkEnd}
use Rattle.hall_server.specs.declared.link_end.LinkEnd.TheVariants as ends
use Rattle.hall_server.specs.declared.reply_kind.ReplyKind.{ReplyKind}
use Rattle.hall_server.specs.declared.reply_kind.ReplyKind.TheVariants as kinds
use Rattle.hall_server.specs.Services.{Stand, Grows, most_losses}
use Rattle.hall_server.specs.Transcripts.{Answered, Replies, Transcript, link_end}

-- the reply is a 507
abbrev pub is_lost_kind : ReplyKind → Bool
is_lost_kind kinds.Lost = true
is_lost_kind kinds.Answer = false
is_lost_kind kinds.NoEntry = false
is_lost_kind kinds.NoMemory = false

-- the reply is a 500
abbrev pub is_refused_kind : ReplyKind → Bool
is_refused_kind kinds.NoEntry = true
is_refused_kind kinds.Answer = false
is_refused_kind kinds.Lost = false
is_refused_kind kinds.NoMemory = false

-- the message was answered by a 507
abbrev pub is_lost : Answered → Bool
is_lost answered = is_lost_kind answered.kind

-- the message was answered by a 500
abbrev pub is_refused : Answered → Bool
is_refused answered = is_refused_kind answered.kind

-- how many 507s there are
abbrev pub lost_count : List Answered → ℕ
lost_count answers = length (filter is_lost answers)

-- how many 500s there are
abbrev pub refused_count : List Answered → ℕ
refused_count answers = length (filter is_refused answers)

-- the losses rose by so many, or stand at their last value
abbrev pub RoseBy : ℕ → ℕ → ℕ → Type 0
RoseBy count before now = (now ≡ before + count) ⊎ (now ≡ most_losses)

-- the refusals rose by so many at least, or stand at their last value
abbrev pub HasRisenBy : ℕ → ℕ → ℕ → Type 0
HasRisenBy count before now = min (before + count) (2 ^ 64 - 1) ≤ now

-- what was seen and counted in the course of these answers
pub record CountsAnswers (first now : Stand) (answers : List Answered) : Type 0 where
  pub grown : Grows first.seen now.seen
  pub losses : RoseBy (lost_count answers) first.losses now.losses
  pub refusals : HasRisenBy (refused_count answers) first.refusals now.refusals

-- a write failed: in a reply, after which nothing was read; or in the fixed reply of the end
pub data WriteFails (access : AccessData) (h : List EntryData) (from : ℕ) (read : List ℕ)
    (in_now : Option (List ℕ)) (messages : List MessageData) (answers : List Answered)
    (written : List ℕ) : Type 0 where
  InReply : (all : List ℕ) → IsPrefixOf written all → Begins access 10000 read messages
      → Replies h 0 from messages answers all
      → WriteFails access h from read in_now messages answers written
  InEnd : (all : List ℕ) (end : CutEnd) → IsPrefixOf written all
      → (IsFinal end ⊎ IsAtEnd in_now) → Cut access 10000 read messages end
      → Transcript messages end all h from answers
      → WriteFails access h from read in_now messages answers written

-- How it ended. ReadFault: the messages that were answered are those of the bytes that were read.
-- WriteFault: the messages that were answered are the first of them. NoMemory: none was read. Else
-- the messages that were answered are those of all the input, where it is told.
abbrev pub EndsSo :
    AccessData → List EntryData → ℕ → List ℕ → Option (List ℕ) → List MessageData
    → List Answered → List ℕ → LinkEnd → Type 0
EndsSo access h from read in_now messages answers written ends.ReadFault =
    (end : CutEnd) × Cut access 10000 read messages end
    × Replies h 0 from messages answers written
EndsSo access h from read in_now messages answers written ends.WriteFault =
    WriteFails access h from read in_now messages answers written
EndsSo access h from read in_now messages answers written ends.NoMemory =
    (read ≡ []) × (written ≡ []) × (messages ≡ []) × (answers ≡ [])
EndsSo access h from read in_now messages answers written end =
    (at : CutEnd) × (link_end at ≡ end) × Transcript messages at written h from answers
    × ((left : List ℕ) → in_now ≡ Some left → Cut access 10000 (read ++ left) messages at)

-- A whole connection, by the options of a server: the bytes that were read and written, the
-- messages that were answered and how each was, what was seen and counted meanwhile, and how it
-- ended.
pub record Serves (access : AccessData) (first now : Stand)
    (in_first in_now out_first out_now : Option (List ℕ)) (result : LinkEnd) : Type 0 where
  pub read : List ℕ
  pub written : List ℕ
  pub messages : List MessageData
  pub answers : List Answered
  pub input : in_first ≡ with_front read in_now
  pub output : out_now ≡ with_end written out_first
  pub counts : CountsAnswers first now answers
  pub so : EndsSo access now.seen (length first.seen) read in_now messages answers written result
