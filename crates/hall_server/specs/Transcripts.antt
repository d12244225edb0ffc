-- What a connection wrote: a reply to each message in order, each for a prefix of one history
-- (own).
use Rattle.std.specs.Prelude.{◌≡◌, ℕ, ◌+◌, ◌≤◌, ◌==◌, ◌||◌, Bool, true, false, List, [], ◌∷◌, ◌++◌, length, take, codes}
use Rattle.edit_entries.specs.Entries.{EntryData}
use Rattle.web_heads.specs.declared.cut_end.CutEnd.{CutEnd}
use Rattle.web_heads.specs.declared.cut_end.CutEnd.TheVariants.{Closed, CutShort, BadHead, LargeHead, LargeBody, Unsupported, Foreign, Spent}
use Rattle.web_heads.specs.Accesses.{speaks_as}
use Rattle.web_heads.specs.Cuts.{MessageData}
use Rattle.web_requests.specs.declared.request.Request.{Request}
use Rattle.web_requests.specs.declared.request.Request.TheVariants.{Edit}
use Rattle.web_requests.specs.Requests.{IsRequest}
use Rattle.web_requests.specs.Answers.{bare_reply, json_reply, lost_reply, no_memory_reply, no_entry_reply, IsRequestAnswer, IsForService}
use Rattle.web_requests.specs.Bodies.{named_fault}
use Rattle.hall_server.specs.declared.link_end.LinkEnd.{LinkEnd}
use Rattle.hall_server.specs.declared.link_end.LinkEnd.TheVariants as ends
use Rattle.hall_server.specs.declared.reply_kind.ReplyKind.{ReplyKind}
use Rattle.hall_server.specs.declared.reply_kind.ReplyKind.TheVariants as kinds
use Rattle.hall_server.specs.Services.{IsAcceptedAfter}

-- the message is this request
abbrev pub IsRequestOf : MessageData → Request → Type 0
IsRequestOf message request = IsRequest message.method message.target message.body request

-- where the request brings an entry, the message speaks as its session
abbrev pub is_of_user : MessageData → Request → Bool
is_of_user message (Edit entry) = speaks_as message.user entry.session
is_of_user message request = true

-- the reply to an entry of a session as which its message does not speak, after so many entries
abbrev pub not_you_reply : ℕ → Bool → List ℕ
not_you_reply front closing = json_reply 403 front closing (named_fault (codes "NotYou"))

-- the text is the answer to a request of a message's own after a history, or to another
abbrev pub IsAnswerBy : Bool → List EntryData → Request → Bool → List ℕ → Type 0
IsAnswerBy true h request closing text = IsRequestAnswer h request closing text
IsAnswerBy false h request closing text = text ≡ not_you_reply (length h) closing

-- the text is the answer to the message after a history
abbrev pub IsAnswerTo : List EntryData → MessageData → Bool → List ℕ → Type 0
IsAnswerTo h message closing text =
    (request : Request) × IsRequestOf message request
    × IsAnswerBy (is_of_user message request) h request closing text

-- the message is an edit of its own that is accepted after a history, and the text says that it was
-- not kept
abbrev pub IsLostAt : List EntryData → MessageData → Bool → List ℕ → Type 0
IsLostAt h message closing text =
    (entry : EntryData) × IsRequestOf message (Edit entry)
    × (is_of_user message (Edit entry) ≡ true) × IsAcceptedAfter h entry
    × (text ≡ lost_reply (length h) closing)

-- the message asks for an edit of its own, or for a report
abbrev pub AsksService : MessageData → Type 0
AsksService message =
    (request : Request) × IsRequestOf message request × (is_of_user message request ≡ true)
    × IsForService request

-- The text is a reply of this kind to the message, where the front before it is the first number,
-- and the prefix on which it stands is this. A reply that stands on no history has the front before
-- it.
abbrev pub IsReply :
    ℕ → List EntryData → MessageData → Bool → ReplyKind → List ℕ → Type 0
IsReply from h message closing kinds.Answer text = IsAnswerTo h message closing text
IsReply from h message closing kinds.Lost text = IsLostAt h message closing text
IsReply from h message closing kinds.NoEntry text =
    (length h ≡ from) × AsksService message × (text ≡ no_entry_reply)
IsReply from h message closing kinds.NoMemory text =
    (length h ≡ from) × (text ≡ no_memory_reply)

-- how a message was answered: the length of the prefix on which the reply stands, and its kind
pub record Answered : Type 0 where
  pub front : ℕ
  pub kind : ReplyKind

-- the reply to the message of this place, from 0, says close: the message does, or it is the
-- 10,000th
abbrev pub closes : ℕ → MessageData → Bool
closes place message = message.closing || place == 9999

-- The output is one reply to each of these messages, the first of which has this place. The fronts
-- start at `from` or above, never fall, and end at the length of the history or below.
abbrev pub Replies :
    List EntryData → ℕ → ℕ → List MessageData → List Answered → List ℕ → Type 0
Replies h place from [] [] output = output ≡ []
Replies h place from (message ∷ messages) (answered ∷ more) output =
    (from ≤ answered.front) × (answered.front ≤ length h)
    × (text : List ℕ) × (rest : List ℕ) × (output ≡ text ++ rest)
    × IsReply from (take answered.front h) message (closes place message) answered.kind text
    × Replies h (place + 1) answered.front messages more rest
Replies h place from [] (answered ∷ more) output = ⊥
Replies h place from (message ∷ messages) [] output = ⊥

-- what is written at an end, if anything is
abbrev pub end_reply : CutEnd → List ℕ
end_reply BadHead = bare_reply 400 true (codes "BadHead")
end_reply LargeHead = bare_reply 431 true (codes "TooLarge")
end_reply LargeBody = bare_reply 413 true (codes "TooLarge")
end_reply Unsupported = bare_reply 501 true (codes "Unsupported")
end_reply Foreign = bare_reply 403 true (codes "Foreign")
end_reply Closed = []
end_reply CutShort = []
end_reply Spent = []

-- The output is a reply to each message, and then the fixed reply of the end. The fronts start at
-- `from` or above, and end at the length of the history or below.
abbrev pub Transcript :
    List MessageData → CutEnd → List ℕ → List EntryData → ℕ → List Answered → Type 0
Transcript messages end output h from answers =
    (before : List ℕ) × Replies h 0 from messages answers before
    × (output ≡ before ++ end_reply end)

-- what a connection answers at an end
abbrev pub link_end : CutEnd → LinkEnd
link_end Closed = ends.Closed
link_end CutShort = ends.CutShort
link_end BadHead = ends.BadHead
link_end LargeHead = ends.TooLarge
link_end LargeBody = ends.TooLarge
link_end Unsupported = ends.Unsupported
link_end Foreign = ends.Foreign
link_end Spent = ends.Spent
