-- The piece that is written for what a service answers.
use Rattle.std.specs.Prelude.{◌≡◌, ℕ, Bool, List, Result, Ok, Err, codes}
use Rattle.keeper_core.specs.declared.reply.Reply.{Reply}
use Rattle.keeper_core.specs.declared.reply.Reply.TheVariants as replies
use Rattle.reports.specs.declared.fault.ReportFault.TheVariants as faults
use Rattle.web_requests.specs.Answers.{json_reply, report_reply, lost_reply, no_memory_reply, no_entry_reply}
use Rattle.web_requests.specs.Bodies.{named_fault, numbered_fault, done_entry, fault_data, fault_status}
use Rattle.hall_server.specs.declared.shown.Shown.{Shown}
use Rattle.hall_server.specs.declared.shown.Shown.TheVariants as shown
use Rattle.hall_server.specs.declared.reply_kind.ReplyKind.{ReplyKind}
use Rattle.hall_server.specs.declared.reply_kind.ReplyKind.TheVariants as kinds

-- an answer, where there was memory for its text
abbrev pub kind_written : {T E : Type 0} → Result T E → ReplyKind
kind_written (Ok x) = kinds.Answer
kind_written (Err e) = kinds.NoMemory

-- what is written for a reply of this kind
abbrev pub piece_of : ReplyKind → List ℕ → List ℕ
piece_of kinds.Answer text = text
piece_of kinds.Lost text = text
piece_of kinds.NoEntry text = no_entry_reply
piece_of kinds.NoMemory text = no_memory_reply

-- this answer was written, or there was no memory for it
abbrev pub IsWritten : List ℕ → List ℕ → ReplyKind → Type 0
IsWritten expected piece kinds.Answer = piece ≡ expected
IsWritten expected piece kinds.NoMemory = piece ≡ no_memory_reply
IsWritten expected piece kinds.Lost = ⊥
IsWritten expected piece kinds.NoEntry = ⊥

-- the piece and the kind for what came of an edit
abbrev pub IsEditPiece : Reply → Bool → List ℕ → ReplyKind → Type 0
IsEditPiece (replies.Done serial id front) closing piece kind =
    IsWritten (json_reply 200 front closing (done_entry id serial)) piece kind
IsEditPiece (replies.Repeat serial id front) closing piece kind =
    IsWritten (json_reply 200 front closing (done_entry id serial)) piece kind
IsEditPiece (replies.Refused fault front) closing piece kind =
    IsWritten (json_reply (fault_status fault) front closing (fault_data fault)) piece kind
IsEditPiece (replies.KeeperFault front) closing piece kind =
    (kind ≡ kinds.Lost) × (piece ≡ lost_reply front closing)
IsEditPiece replies.NoEntry closing piece kind =
    (kind ≡ kinds.NoEntry) × (piece ≡ no_entry_reply)
IsEditPiece replies.NoMemory closing piece kind =
    (kind ≡ kinds.NoMemory) × (piece ≡ no_memory_reply)

-- the same for what a report came to
abbrev pub IsShownPiece : Shown → Bool → List ℕ → ReplyKind → Type 0
IsShownPiece (shown.Text front body) closing piece kind =
    IsWritten (report_reply front closing body) piece kind
IsShownPiece (shown.Behind front) closing piece kind =
    IsWritten (json_reply 409 front closing
    (numbered_fault (codes "Behind") (codes "front") front)) piece kind
IsShownPiece (shown.Fault front faults.NoSheet) closing piece kind =
    IsWritten (json_reply 404 front closing (named_fault (codes "NoSheet"))) piece kind
IsShownPiece (shown.Fault front faults.NoSymbol) closing piece kind =
    IsWritten (json_reply 404 front closing (named_fault (codes "NoSymbol"))) piece kind
IsShownPiece (shown.Fault front faults.TooManyInstances) closing piece kind =
    IsWritten (json_reply 422 front closing (named_fault (codes "TooManyInstances"))) piece kind
IsShownPiece (shown.Fault front faults.NoMemory) closing piece kind =
    (kind ≡ kinds.NoMemory) × (piece ≡ no_memory_reply)
IsShownPiece shown.NoEntry closing piece kind =
    (kind ≡ kinds.NoEntry) × (piece ≡ no_entry_reply)
IsShownPiece shown.NoMemory closing piece kind =
    (kind ≡ kinds.NoMemory) × (piece ≡ no_memory_reply)
