-- An acknowledged edit is held by the history.
use Rattle.std.proofs.Common.{◌≡◌, ◌⊎◌, inl, inr, ℕ, Bool, true, false, List, take, Option, Some, None, slice_get, get_or, codes, arith, refl, sym, ap, ◌∙◌, subst}
use Rattle.std.specs.Bool.{if◌then◌else◌}
use Rattle.edit_entries.specs.Entries.{EntryData}
use Rattle.edit_entries.specs.steps.EqualityLaws.{entry_is}
use Rattle.edit_entries.specs.declared.fault.EditFault.{EditFault}
use Rattle.edit_entries.specs.declared.fault.EditFault.TheVariants as faults
use Rattle.edit_rules.specs.EditChanges.{Change}
use Rattle.edit_rules.specs.Histories.{changes}
use Rattle.edit_rules.specs.EarlyLines.{is_same_at, serial_of_number, repeated_serial, repeated_at}
use Rattle.edit_rules.specs.Verdicts.{first_of, verdict_lines, verdict, verdict_by}
use Rattle.edit_rules.specs.declared.verdict.Verdict.{Verdict}
use Rattle.edit_rules.specs.declared.verdict.Verdict.TheVariants as verdicts
use Rattle.serde_json.specs.Data.{Data}
use Rattle.web_requests.specs.declared.request.Request.TheVariants.{Edit}
use Rattle.web_requests.specs.Texts.{reply_text, status_line}
use Rattle.web_requests.specs.Bodies.{fault_data, fault_status}
use Rattle.web_requests.specs.Answers.{Acknowledges, IsRequestAnswer, IsEditAnswer, json_reply}

serial_in : Verdict → ℕ → ℕ
serial_in (verdicts.Repeat serial) other = serial
serial_in (verdicts.Refused fault) other = other
serial_in (verdicts.Accept change) other = other

-- the verdict is Repeat only by its own line
repeated_by : (r : Option ℕ) (f : Option EditFault) (c : Change) (serial : ℕ) → verdict_by r f c ≡ verdicts.Repeat serial → r ≡ Some serial
unfolding serial_in
repeated_by (Some s) f c serial e = ap Some (ap (λ v. serial_in v s) e)
repeated_by None (Some fault) c serial e = absurd (let k = e in cc)
repeated_by None None c serial e = absurd (let k = e in cc)

same_there : (o : Option EntryData) (e : EntryData) → is_same_at o e ≡ true → o ≡ Some e
same_there None e h = absurd (let k = h in cc)
same_there (Some old) e h = ap Some (entry_is old e h)

some_same : (x y : ℕ) → Some x ≡ Some y → x ≡ y
some_same x y e = ap value e
  where
    value : Option ℕ → ℕ
    value None = x
    value (Some z) = z

stands_at : (h : List EntryData) (e : EntryData) (o : Option ℕ) (serial : ℕ) → repeated_at h e o ≡ Some serial → slice_get h serial ≡ Some e
stands_at h e None serial r = absurd (let k = r in cc)
stands_at h e (Some s) serial r = go (is_same_at (slice_get h s) e) refl r
  where
    go : (b : Bool) → is_same_at (slice_get h s) e ≡ b → (if b then Some s else None) ≡ Some serial → slice_get h serial ≡ Some e
    go true t f = subst (λ k. slice_get h k ≡ Some e) (some_same s serial f) (same_there (slice_get h s) e t)
    go false t f = absurd (let k = f in cc)

pub held : (h : List EntryData) (e : EntryData) (serial : ℕ) → verdict h e ≡ verdicts.Repeat serial → slice_get h serial ≡ Some e
held h e serial v = stands_at h e (serial_of_number h e) serial (repeated_by (repeated_serial h e) (first_of (verdict_lines h e)) (changes h e.edit) serial v)

-- the status of a refused edit
is_refusal : (fault : EditFault) → (fault_status fault ≡ 409) ⊎ (fault_status fault ≡ 422)
is_refusal (faults.Stale n) = inl refl
is_refusal (faults.BaseAhead n) = inl refl
is_refusal (faults.NumberGap n) = inl refl
is_refusal (faults.NumberReused n) = inl refl
is_refusal (faults.UndoBlocked n) = inl refl
is_refusal faults.NoSheet = inr refl
is_refusal faults.SheetExists = inr refl
is_refusal faults.NoSymbol = inr refl
is_refusal faults.SymbolExists = inr refl
is_refusal (faults.NoObject n) = inr refl
is_refusal (faults.NotOnKind n) = inr refl
is_refusal (faults.BadText k n) = inr refl
is_refusal (faults.OutOfRange n) = inr refl
is_refusal faults.NotYours = inr refl
is_refusal (faults.UndoneAlready n) = inr refl
is_refusal (faults.SheetInUse n) = inr refl
is_refusal faults.TooManyObjects = inr refl
is_refusal faults.ProjectFull = inr refl
is_refusal faults.HistoryFull = inr refl
is_refusal faults.NoSuchEntry = inr refl
is_refusal (faults.NoAttribute n) = inr refl

conflict_start : (front : ℕ) (closing : Bool) (body : Data) → take 12 (json_reply 409 front closing body) ≡ codes "HTTP/1.1 409"
unfolding reply_text status_line
conflict_start front closing body = refl

refused_start : (front : ℕ) (closing : Bool) (body : Data) → take 12 (json_reply 422 front closing body) ≡ codes "HTTP/1.1 422"
unfolding reply_text status_line
refused_start front closing body = refl

not_conflict : codes "HTTP/1.1 409" ≡ codes "HTTP/1.1 200" → ⊥
not_conflict e = let nine : 52 ≡ 50 = ap (λ t. get_or t 9 0) e in absurd (omega (arith, nine))

not_refused : codes "HTTP/1.1 422" ≡ codes "HTTP/1.1 200" → ⊥
not_refused e = let nine : 52 ≡ 50 = ap (λ t. get_or t 9 0) e in absurd (omega (arith, nine))

refusal_unacknowledged : (status front : ℕ) (closing : Bool) (body : Data) (text : List ℕ) → (status ≡ 409) ⊎ (status ≡ 422)
    → text ≡ json_reply status front closing body → Acknowledges text → ⊥
refusal_unacknowledged status front closing body text (inl s) t a =
    not_conflict (sym (conflict_start front closing body) ∙ ap (λ n. take 12 (json_reply n front closing body)) (sym s) ∙ ap (take 12) (sym t) ∙ a)
refusal_unacknowledged status front closing body text (inr s) t a =
    not_refused (sym (refused_start front closing body) ∙ ap (λ n. take 12 (json_reply n front closing body)) (sym s) ∙ ap (take 12) (sym t) ∙ a)

pub acknowledged : (h : List EntryData) (e : EntryData) (closing : Bool) (text : List ℕ) → IsRequestAnswer h (Edit e) closing text → Acknowledges text
    → (serial : ℕ) × (slice_get h serial ≡ Some e)
acknowledged h e closing text i a = go (verdict h e) refl i
  where
    go : (v : Verdict) → verdict h e ≡ v → IsEditAnswer h closing text v → (serial : ℕ) × (slice_get h serial ≡ Some e)
    go (verdicts.Repeat serial) v t = (serial, held h e serial v)
    go (verdicts.Refused fault) v t = absurd (refusal_unacknowledged (fault_status fault) _ closing (fault_data fault) text (is_refusal fault) t a)
    go (verdicts.Accept change) v t = absurd t
