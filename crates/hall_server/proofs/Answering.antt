-- What a hall answers a seat, as what a service answers.
use Rattle.std.proofs.Common.{◌≡◌, ℕ, ◌+◌, ◌≤◌, ◌<◌, true, List, [], ◌∷◌, ◌++◌, length, take, Some, cond, arith, refl, sym, ap, ◌∙◌, append_assoc, length-append, ⊎_elim}
use Rattle.std.specs.List.{slice_get}
use Rattle.std.specs.Cmp.{unsigned_Decides}
use Rattle.std.proofs.lemmas.Bool.{cases_lt}
use Rattle.std.proofs.lemmas.List.{length-take-le, take_all}
use Rattle.std.proofs.lemmas.Slice.Eq.{bytes_eq-Decides}
use mathlib.Core.List.{IsPrefix}
use Rattle.edit_entries.specs.Entries.{EntryData}
use Rattle.edit_entries.specs.steps.EqualityLaws.{entry_itself}
use Rattle.edit_rules.specs.EarlyLines.{is_same_at, serial_of_number, repeated_serial, repeated_at}
use Rattle.edit_rules.specs.Histories.{changes, last_place}
use Rattle.edit_rules.specs.Naming.{has_session_number}
use Rattle.edit_rules.specs.Verdicts.{first_of, verdict_lines, verdict, verdict_by}
use Rattle.edit_rules.specs.declared.verdict.Verdict.TheVariants.{Repeat}
use Rattle.edit_rules.proofs.LongerHistories.{last_push}
use Rattle.keeper_core.specs.declared.reply.Reply.{Reply}
use Rattle.keeper_core.specs.declared.reply.Reply.TheVariants as replies
use Rattle.hall_core.specs.Seats.{SeatData}
use Rattle.hall_core.specs.Pens as hall
use Rattle.web_heads.specs.Links.{IsPrefixOf}
use Rattle.hall_server.specs.Services as services

numbered_itself : (e : EntryData) → has_session_number e.session e.number e ≡ true
numbered_itself e =
    rw ((bytes_eq-Decides e.session e.session).1 refl, (unsigned_Decides e.number e.number).1 refl) refl

get_last : (h : List EntryData) (e : EntryData) → slice_get (h ++ e ∷ []) (length h) ≡ Some e
get_last [] e = refl
get_last (x ∷ h) e = get_last h e

repeated_last : (h : List EntryData) (e : EntryData) → repeated_serial (h ++ e ∷ []) e ≡ Some (length h)
repeated_last h e =
    let l : List EntryData = h ++ e ∷ [] in
    let last = last_place (has_session_number e.session e.number) h in
    let at : serial_of_number l e ≡ Some (length h) =
    last_push (has_session_number e.session e.number) h e ∙ ap (λ b. cond b (Some (length h)) last) (numbered_itself e) in
    let same : is_same_at (slice_get l (length h)) e ≡ true = ap (λ o. is_same_at o e) (get_last h e) ∙ entry_itself e in
    ap (repeated_at l e) at ∙ rw same refl

-- an entry that stands last is repeated there
standing : (h : List EntryData) (e : EntryData) → verdict (h ++ e ∷ []) e ≡ Repeat (length h)
standing h e =
    let l : List EntryData = h ++ e ∷ [] in
    ap (λ r. verdict_by r (first_of (verdict_lines l e)) (changes l e.edit)) (repeated_last h e)

length_one : (h : List EntryData) (e : EntryData) → length (h ++ e ∷ []) ≡ length h + 1
length_one h e = length-append h (e ∷ [])

-- a list that is its first entries with one more has one more than these
serial_is : (l : List EntryData) (e : EntryData) (serial : ℕ) → l ≡ take serial l ++ e ∷ [] → length (take serial l) ≡ serial
serial_is l e serial is = ⊎_elim
    (λ (few : serial < length l). length-take-le serial l (omega (arith, few)))
    (λ (all : length l ≤ serial).
    let whole : take serial l ≡ l = take_all serial l all in
    let one : length l ≡ length (take serial l) + 1 = ap length is ∙ length_one (take serial l) e in
    let same : length (take serial l) ≡ length l = ap length whole in
    absurd (omega (arith, one, same)))
    (cases_lt serial (length l))

stands_at : (l : List EntryData) (e : EntryData) (serial : ℕ) → l ≡ take serial l ++ e ∷ [] → verdict l e ≡ Repeat serial
stands_at l e serial is =
    ap (λ k. verdict k e) is ∙ standing (take serial l) e ∙ ap Repeat (serial_is l e serial is)

of_prefix : (xs ys : List EntryData) → IsPrefix xs ys → IsPrefixOf xs ys
of_prefix xs ys p = (p.0, sym p.1)

module _ (old new : SeatData) (e : EntryData) where
  pub grown : (r : Reply) → hall.Edits old e r new → IsPrefixOf old.seen new.seen
  grown (replies.Done serial first_id front) a =
      (a.0.0 ++ e ∷ [], a.1 ∙ ap (λ (l : List EntryData). l ++ e ∷ []) (sym a.0.1) ∙ append_assoc old.seen a.0.0 (e ∷ []))
  grown (replies.Repeat serial first_id front) a = of_prefix _ _ a.0
  grown (replies.Refused fault front) a = of_prefix _ _ a.0
  grown (replies.KeeperFault front) a = of_prefix _ _ a.0
  grown replies.NoEntry a = of_prefix _ _ a.0
  grown replies.NoMemory a = of_prefix _ _ a.0

  pub answered : (r : Reply) → hall.Edits old e r new → services.IsEditReply new.seen e r
  answered (replies.Done serial first_id front) a = (a.4, (stands_at new.seen e serial a.1, a.3), (take serial new.seen, a.1))
  answered (replies.Repeat serial first_id front) a = (a.3, (a.1.is, a.2))
  answered (replies.Refused fault front) a = (a.2, a.1.is)
  answered (replies.KeeperFault front) a = (a.2, a.1.is)
  answered replies.NoEntry a = tt
  answered replies.NoMemory a = tt
