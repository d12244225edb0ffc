-- Replies so far, and one more.
use Rattle.std.proofs.Common.{ℕ, ◌+◌, ◌≤◌, List, [], ◌∷◌, ◌++◌, length, take, refl, sym, ap, ◌∙◌, subst, arith, append_assoc, append-nil, length-append}
use Rattle.std.proofs.lemmas.List.{take-append-le}
use Rattle.edit_entries.specs.Entries.{EntryData}
use Rattle.web_heads.specs.Cuts.{MessageData}
use Rattle.hall_server.specs.Transcripts.{Answered, IsReply, Replies, closes}
use Rattle.hall_server.specs.steps.Responding.{last_front}

-- a longer list of entries has the same replies
pub Replies-grow : (h more : List EntryData) (place from : ℕ) (ms : List MessageData) (answers : List Answered) (output : List ℕ)
    → Replies h place from ms answers output → Replies (h ++ more) place from ms answers output
Replies-grow h more place from [] [] output r = r
Replies-grow h more place from (m ∷ ms) (a ∷ answers) output r = (
  r.0,
  omega (arith, r.1, length-append h more),
  r.2,
  r.3,
  r.4,
  subst (λ p. IsReply from p m (closes place m) a.kind r.2) (sym (take-append-le a.front h more r.1)) r.5,
  Replies-grow h more (place + 1) a.front ms answers r.3 r.6,
)
Replies-grow h more place from [] (a ∷ answers) output r = r
Replies-grow h more place from (m ∷ ms) [] output r = r

pub Replies-push : (h : List EntryData) (place from : ℕ) (ms : List MessageData) (answers : List Answered) (output : List ℕ) (m : MessageData) (a : Answered) (text : List ℕ)
    → Replies h place from ms answers output → last_front from answers ≤ a.front → a.front ≤ length h → IsReply (last_front from answers) (take a.front h) m (closes (place + length ms) m) a.kind text
    → Replies h place from (ms ++ m ∷ []) (answers ++ a ∷ []) (output ++ text)
Replies-push h place from [] [] output m a text r p q t =
    (p, q, text, [], ap (λ o. o ++ text) r ∙ sym (append-nil text), subst (λ n. IsReply from (take a.front h) m (closes n m) a.kind text) (omega arith) t, refl)
Replies-push h place from (k ∷ ms) (g ∷ answers) output m a text r p q t = (
  r.0,
  r.1,
  r.2,
  r.3 ++ text,
  ap (λ o. o ++ text) r.4 ∙ append_assoc r.2 r.3 text,
  r.5,
  Replies-push h (place + 1) g.front ms answers r.3 m a text r.6 p q (subst (λ n. IsReply (last_front g.front answers) (take a.front h) m (closes n m) a.kind text) (omega arith) t),
)
Replies-push h place from [] (g ∷ answers) output m a text r p q t = absurd r
Replies-push h place from (k ∷ ms) [] output m a text r p q t = absurd r
