-- An entry that is acknowledged is of the user as whom its message speaks.
use Rattle.std.proofs.Common.{◌≡◌, ℕ, Bool, true, false, List, [], ◌∷◌, take, length, Option, Some, get_or, codes, arith, refl, sym, ap, ◌∙◌, subst}
use Rattle.std.proofs.lemmas.Slice.Eq.{bytes_eq-Decides}
use Rattle.edit_entries.specs.Entries.{EntryData}
use Rattle.serde_json.specs.Data.{Data}
use Rattle.web_heads.specs.Accesses.{AccessData, speaks_as}
use Rattle.web_heads.specs.Cuts.{IsMessageBy, MessageData}
use Rattle.web_heads.specs.Heads.{headers_of, only, user_named, values_named}
use Rattle.web_requests.specs.declared.request.Request.{Request}
use Rattle.web_requests.specs.declared.request.Request.TheVariants.{Edit}
use Rattle.web_requests.specs.Texts.{reply_text, status_line}
use Rattle.web_requests.specs.Bodies.{named_fault}
use Rattle.web_requests.specs.Answers.{Acknowledges, json_reply, no_entry_reply, no_memory_reply}
use Rattle.web_requests.proofs.OneRequest.{one_request}
use Rattle.hall_server.specs.declared.reply_kind.ReplyKind.{ReplyKind}
use Rattle.hall_server.specs.declared.reply_kind.ReplyKind.TheVariants as kinds
use Rattle.hall_server.specs.Transcripts.{IsAnswerBy, IsReply, IsRequestOf, is_of_user, not_you_reply}

-- the one value of which the session is
named_alone : (values : List (List ℕ)) (session : List ℕ) → speaks_as (Some (only values)) session ≡ true → values ≡ session ∷ []
named_alone [] session e = absurd (let k = e in cc)
named_alone (value ∷ []) session e = ap (λ v. v ∷ []) ((bytes_eq-Decides value session).0 e)
named_alone (value ∷ other ∷ values) session e = absurd (let k = e in cc)

forbidden_start : (front : ℕ) (closing : Bool) (body : Data) → take 12 (json_reply 403 front closing body) ≡ codes "HTTP/1.1 403"
unfolding reply_text status_line
forbidden_start front closing body = refl

no_memory_start : take 12 no_memory_reply ≡ codes "HTTP/1.1 503"
unfolding reply_text status_line
no_memory_start = refl

not_forbidden : codes "HTTP/1.1 403" ≡ codes "HTTP/1.1 200" → ⊥
not_forbidden e = let nine : 52 ≡ 50 = ap (λ t. get_or t 9 0) e in absurd (omega (arith, nine))

not_unavailable : codes "HTTP/1.1 503" ≡ codes "HTTP/1.1 200" → ⊥
not_unavailable e = let nine : 53 ≡ 50 = ap (λ t. get_or t 9 0) e in absurd (omega (arith, nine))

declined : (h : List EntryData) (closing : Bool) (text : List ℕ) → text ≡ not_you_reply (length h) closing → Acknowledges text → ⊥
declined h closing text t a = not_forbidden (sym (forbidden_start (length h) closing (named_fault (codes "NotYou"))) ∙ ap (take 12) (sym t) ∙ a)

answered_own : (h : List EntryData) (m : MessageData) (closing : Bool) (text : List ℕ) (request : Request) (b : Bool) → is_of_user m request ≡ b → IsAnswerBy b h request closing text → Acknowledges text → is_of_user m request ≡ true
answered_own h m closing text request true e answer a = e
answered_own h m closing text request false e answer a = absurd (declined h closing text answer a)

-- what is acknowledged is the message's own
own : (from : ℕ) (h : List EntryData) (m : MessageData) (closing : Bool) (kind : ReplyKind) (text : List ℕ) (entry : EntryData) → IsReply from h m closing kind text → IsRequestOf m (Edit entry) → Acknowledges text → is_of_user m (Edit entry) ≡ true
own from h m closing kinds.Answer text entry r is a =
    subst (λ q. is_of_user m q ≡ true) (one_request m.method m.target m.body r.0 (Edit entry) r.1 is) (answered_own h m closing text r.0 (is_of_user m r.0) refl r.2 a)
own from h m closing kinds.Lost text entry r is a =
    subst (λ q. is_of_user m q ≡ true) (one_request m.method m.target m.body (Edit r.0) (Edit entry) r.1 is) r.2
own from h m closing kinds.NoEntry text entry r is a =
    subst (λ q. is_of_user m q ≡ true) (one_request m.method m.target m.body r.1.0 (Edit entry) r.1.1 is) r.1.2
own from h m closing kinds.NoMemory text entry r is a =
    absurd (not_unavailable (sym no_memory_start ∙ ap (take 12) (sym r.1) ∙ a))

pub own_entry : (access : AccessData) (header bytes rest : List ℕ) (m : MessageData) (is : IsMessageBy access bytes m rest) (from : ℕ) (h : List EntryData) (closing : Bool) (kind : ReplyKind) (text : List ℕ) (entry : EntryData)
    → access.user ≡ Some header → IsReply from h m closing kind text → IsRequestOf m (Edit entry) → Acknowledges text → values_named header (headers_of is.head) ≡ entry.session ∷ []
own_entry access header bytes rest m is from h closing kind text entry named reply request a =
    named_alone (values_named header (headers_of is.head)) entry.session
    (subst (λ u. speaks_as (user_named u (headers_of is.head)) entry.session ≡ true) named
    (subst (λ u. speaks_as u entry.session ≡ true) is.user (own from h m closing kind text entry reply request a)))
