-- The reply to a request is a reply to each message that is this request.
use Rattle.std.proofs.Common.{◌≡◌, ℕ, ◌≤◌, inl, inr, Bool, true, false, List, Option, Ok, Err, codes, refl, sym, ap, ◌∙◌, subst}
use Rattle.geda_defs.specs.Causes.{HasRisen}
use Rattle.edit_entries.specs.Entries.{EntryData}
use Rattle.web_heads.specs.Accesses.{speaks_as}
use Rattle.web_heads.specs.Cuts.{MessageData}
use Rattle.web_requests.specs.declared.request.Request.{Request}
use Rattle.web_requests.specs.declared.request.Request.TheVariants.{Edit, Report, Fixed}
use Rattle.web_requests.specs.Requests.{IsRequest}
use Rattle.hall_server.specs.declared.reply_kind.ReplyKind.{ReplyKind}
use Rattle.hall_server.specs.declared.reply_kind.ReplyKind.TheVariants as kinds
use Rattle.reports.specs.declared.what.What.{What}
use Rattle.reports.specs.declared.fault.ReportFault.TheVariants as faults
use Rattle.web_requests.specs.Answers.{IsRequestAnswer, json_reply, no_memory_reply, report_reply}
use Rattle.web_requests.specs.Bodies.{named_fault, numbered_fault}
use Rattle.hall_server.specs.declared.shown.Shown.{Shown}
use Rattle.hall_server.specs.declared.shown.Shown.TheVariants as shown
use Rattle.hall_server.specs.steps.Pieces.{IsShownPiece, IsWritten}
use Rattle.hall_server.specs.Services.{Grows, IsShownReport, Stand}
use Rattle.hall_server.specs.Transcripts.{IsAnswerBy, IsLostAt, IsRequestOf, is_of_user}
use Rattle.hall_server.specs.steps.Responding.{Declines, IsLostEdit, Responds, RespondsTo, Wrote, WroteTo}

lost_at : (h : List EntryData) (m : MessageData) (request : Request) (closing : Bool) (text : List ℕ) → IsRequestOf m request
    → is_of_user m request ≡ true → IsLostEdit h request closing text → IsLostAt h m closing text
lost_at h m (Edit entry) closing text is own l = (entry, is, own, l.0, l.1)
lost_at h m (Report least what) closing text is own l = absurd l
lost_at h m (Fixed request) closing text is own l = absurd l

wrote_to : (h : List EntryData) (m : MessageData) (request : Request) (closing : Bool) (text : List ℕ) (kind : ReplyKind) → IsRequestOf m request
    → is_of_user m request ≡ true → Wrote h request closing text kind → WroteTo h m closing text kind
wrote_to h m request closing text kinds.Answer is own w = (request, is, subst (λ b. IsAnswerBy b h request closing text) (sym own) w)
wrote_to h m request closing text kinds.Lost is own w = lost_at h m request closing text is own w
wrote_to h m request closing text kinds.NoEntry is own w = ((request, is, own, w.0), w.1)
wrote_to h m request closing text kinds.NoMemory is own w = w

pub of_request : (old new : Stand) (m : MessageData) (request : Request) (closing : Bool) (text : List ℕ) (kind : ReplyKind)
    → IsRequest m.method m.target m.body request → is_of_user m request ≡ true → Responds old new request closing text kind → RespondsTo old new m closing text kind
of_request old new m request closing text kind is own r = record {
  grown = r.grown;
  wrote = wrote_to new.seen m request closing text kind is own r.wrote;
  loses = r.loses;
  refuses = r.refuses;
}

-- an entry of a session as which its message does not speak
pub of_other : (old new : Stand) (m : MessageData) (entry : EntryData) (closing : Bool) (text : List ℕ) (kind : ReplyKind)
    → IsRequest m.method m.target m.body (Edit entry) → speaks_as m.user entry.session ≡ false → Declines old new closing text kind → RespondsTo old new m closing text kind
of_other old new m entry closing text kinds.Answer is other d = record {
  grown = d.grown;
  wrote = (Edit entry, is, subst (λ b. IsAnswerBy b new.seen (Edit entry) closing text) (sym other) d.wrote);
  loses = d.losses;
  refuses = d.refusals;
}
of_other old new m entry closing text kinds.NoMemory is other d = record { grown = d.grown; wrote = d.wrote; loses = d.losses; refuses = d.refusals }
of_other old new m entry closing text kinds.Lost is other d = absurd d.wrote
of_other old new m entry closing text kinds.NoEntry is other d = absurd d.wrote

module _ (old new : Stand) (least : Option ℕ) (what : What) (closing : Bool) (piece : List ℕ) where
  written : (kind : ReplyKind) (expected : List ℕ) → Grows old.seen new.seen → new.losses ≡ old.losses → old.refusals ≤ new.refusals
      → (piece ≡ expected → IsRequestAnswer new.seen (Report least what) closing piece) → IsWritten expected piece kind → Responds old new (Report least what) closing piece kind
  written kinds.Answer expected g l r answer w = record { grown = g; wrote = answer w; loses = l; refuses = r }
  written kinds.NoMemory expected g l r answer w = record { grown = g; wrote = w; loses = l; refuses = r }
  written kinds.Lost expected g l r answer w = absurd w
  written kinds.NoEntry expected g l r answer w = absurd w

  unserved : (kind : ReplyKind) → Grows old.seen new.seen → new.losses ≡ old.losses → old.refusals ≤ new.refusals
      → (kind ≡ kinds.NoMemory) × (piece ≡ no_memory_reply) → Responds old new (Report least what) closing piece kind
  unserved kind g l r w =
      subst (λ k. Responds old new (Report least what) closing piece k) (sym w.0) (record { grown = g; wrote = w.1; loses = l; refuses = r })

  -- what is written for a report
  pub shown_responds : (s : Shown) (kind : ReplyKind) → Grows old.seen new.seen → IsShownReport new.seen least what s → IsShownPiece s closing piece kind
      → new.losses ≡ old.losses → old.refusals ≤ new.refusals → (s ≡ shown.NoEntry → HasRisen old.refusals new.refusals)
      → Responds old new (Report least what) closing piece kind
  shown_responds (shown.Text front body) kind g s p l r risen =
      written kind (report_reply front closing body) g l r (λ e. inr (s.1, Ok body, s.2, e ∙ ap (λ f. report_reply f closing body) s.0)) p
  shown_responds (shown.Behind front) kind g s p l r risen =
      written kind (json_reply 409 front closing (numbered_fault (codes "Behind") (codes "front") front)) g l r
      (λ e. inl (s.1, e ∙ ap (λ f. json_reply 409 f closing (numbered_fault (codes "Behind") (codes "front") f)) s.0)) p
  shown_responds (shown.Fault front faults.NoSheet) kind g s p l r risen =
      written kind (json_reply 404 front closing (named_fault (codes "NoSheet"))) g l r
      (λ e. inr (s.1, Err faults.NoSheet, s.2, e ∙ ap (λ f. json_reply 404 f closing (named_fault (codes "NoSheet"))) s.0)) p
  shown_responds (shown.Fault front faults.NoSymbol) kind g s p l r risen =
      written kind (json_reply 404 front closing (named_fault (codes "NoSymbol"))) g l r
      (λ e. inr (s.1, Err faults.NoSymbol, s.2, e ∙ ap (λ f. json_reply 404 f closing (named_fault (codes "NoSymbol"))) s.0)) p
  shown_responds (shown.Fault front faults.TooManyInstances) kind g s p l r risen =
      written kind (json_reply 422 front closing (named_fault (codes "TooManyInstances"))) g l r
      (λ e. inr (s.1, Err faults.TooManyInstances, s.2, e ∙ ap (λ f. json_reply 422 f closing (named_fault (codes "TooManyInstances"))) s.0)) p
  shown_responds (shown.Fault front faults.NoMemory) kind g s p l r risen = unserved kind g l r p
  shown_responds shown.NoMemory kind g s p l r risen = unserved kind g l r p
  shown_responds shown.NoEntry kind g s p l r risen =
      subst (λ k. Responds old new (Report least what) closing piece k) (sym p.0)
      (record { grown = g; wrote = (tt, p.1); loses = l; refuses = risen refl })
