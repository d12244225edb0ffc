-- What answering one message does, and what was done so far.
use Rattle.std.specs.Prelude.{◌≡◌, ℕ, ◌≤◌, ◌⊎◌, Bool, List, [], ◌∷◌, length, Option}
use Rattle.geda_defs.specs.Causes.{HasRisen}
use Rattle.edit_entries.specs.Entries.{EntryData}
use Rattle.web_heads.specs.declared.cut_end.CutEnd.{CutEnd}
use Rattle.web_heads.specs.Accesses.{AccessData}
use Rattle.web_heads.specs.Cuts.{MessageData}
use Rattle.web_heads.specs.Links.{with_front, with_end, IsPrefixOf}
use Rattle.web_heads.specs.steps.Fronts.{Front}
use Rattle.web_requests.specs.declared.request.Request.{Request}
use Rattle.web_requests.specs.declared.request.Request.TheVariants.{Edit}
use Rattle.web_requests.specs.Answers.{lost_reply, no_memory_reply, no_entry_reply, IsRequestAnswer, IsForService}
use Rattle.hall_server.specs.declared.link_end.LinkEnd.{LinkEnd}
use Rattle.hall_server.specs.declared.link_end.LinkEnd.TheVariants as ends
use Rattle.hall_server.specs.declared.reply_kind.ReplyKind.{ReplyKind}
use Rattle.hall_server.specs.declared.reply_kind.ReplyKind.TheVariants as kinds
use Rattle.hall_server.specs.Services.{Stand, Grows, IsAcceptedAfter, one_more_loss}
use Rattle.hall_server.specs.Transcripts.{Answered, AsksService, IsAnswerTo, IsLostAt, Replies, end_reply, link_end, not_you_reply}
use Rattle.hall_server.specs.Connections.{CountsAnswers}
use Rattle.hall_server.specs.steps.Pieces.{IsWritten}

-- the reply to an accepted edit that could not be kept
abbrev pub IsLostEdit : List EntryData → Request → Bool → List ℕ → Type 0
IsLostEdit h (Edit entry) closing text =
    IsAcceptedAfter h entry × (text ≡ lost_reply (length h) closing)
IsLostEdit h _ closing text = ⊥

-- what was written for a request
abbrev pub Wrote : List EntryData → Request → Bool → List ℕ → ReplyKind → Type 0
Wrote h request closing text kinds.Answer = IsRequestAnswer h request closing text
Wrote h request closing text kinds.Lost = IsLostEdit h request closing text
Wrote h request closing text kinds.NoEntry =
    IsForService request × (text ≡ no_entry_reply)
Wrote h request closing text kinds.NoMemory = text ≡ no_memory_reply

-- what was written for a message
abbrev pub WroteTo : List EntryData → MessageData → Bool → List ℕ → ReplyKind → Type 0
WroteTo h message closing text kinds.Answer = IsAnswerTo h message closing text
WroteTo h message closing text kinds.Lost = IsLostAt h message closing text
WroteTo h message closing text kinds.NoEntry =
    AsksService message × (text ≡ no_entry_reply)
WroteTo h message closing text kinds.NoMemory = text ≡ no_memory_reply

-- how the count of losses goes with a reply of this kind
abbrev pub Loses : ℕ → ℕ → ReplyKind → Type 0
Loses before now kinds.Lost = now ≡ one_more_loss before
Loses before now kinds.Answer = now ≡ before
Loses before now kinds.NoEntry = now ≡ before
Loses before now kinds.NoMemory = now ≡ before

-- how the count of refusals goes
abbrev pub Refuses : ℕ → ℕ → ReplyKind → Type 0
Refuses before now kinds.NoEntry = HasRisen before now
Refuses before now kinds.Answer = before ≤ now
Refuses before now kinds.Lost = before ≤ now
Refuses before now kinds.NoMemory = before ≤ now

-- a request is answered by a reply of this kind
pub record Responds (old new : Stand) (request : Request) (closing : Bool) (text : List ℕ)
    (kind : ReplyKind) : Type 0 where
  pub grown : Grows old.seen new.seen
  pub wrote : Wrote new.seen request closing text kind
  pub loses : Loses old.losses new.losses kind
  pub refuses : Refuses old.refusals new.refusals kind

-- an entry of another session is answered by a reply of this kind
pub record Declines (old new : Stand) (closing : Bool) (text : List ℕ) (kind : ReplyKind)
    : Type 0 where
  pub grown : Grows old.seen new.seen
  pub wrote : IsWritten (not_you_reply (length new.seen) closing) text kind
  pub losses : new.losses ≡ old.losses
  pub refusals : old.refusals ≤ new.refusals

-- a message is answered by a reply of this kind
pub record RespondsTo (old new : Stand) (message : MessageData) (closing : Bool) (text : List ℕ)
    (kind : ReplyKind) : Type 0 where
  pub grown : Grows old.seen new.seen
  pub wrote : WroteTo new.seen message closing text kind
  pub loses : Loses old.losses new.losses kind
  pub refuses : Refuses old.refusals new.refusals kind

-- the front of the last reply, or where the fronts start
abbrev pub last_front : ℕ → List Answered → ℕ
last_front from [] = from
last_front from (answered ∷ more) = last_front answered.front more

-- the messages so far are answered, with these bytes left
pub record SoFar (access : AccessData) (first now : Stand)
    (in_first in_now out_first out_now : Option (List ℕ)) (left : List ℕ) (count : ℕ)
    : Type 0 where
  pub read : List ℕ
  pub written : List ℕ
  pub messages : List MessageData
  pub answers : List Answered
  pub input : in_first ≡ with_front read in_now
  pub output : out_now ≡ with_end written out_first
  pub front : Front access read messages left
  pub counted : length messages ≡ count
  pub counts : CountsAnswers first now answers
  pub replies : Replies now.seen 0 (length first.seen) messages answers written
  pub below : last_front (length first.seen) answers ≤ length now.seen

-- after an end, with its fixed reply written if it has one; or a write of it failed
abbrev pub EndWrites : Option (List ℕ) → Option (List ℕ) → CutEnd → LinkEnd → Type 0
EndWrites before after end result =
    ((result ≡ link_end end) × (after ≡ with_end (end_reply end) before))
    ⊎ ((result ≡ ends.WriteFault) × (front : List ℕ) × IsPrefixOf front (end_reply end)
    × (after ≡ with_end front before))
