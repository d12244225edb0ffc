-- Histories as a hall keeps them.
use Rattle.std.proofs.Common.{◌≡◌, ℕ, suc, ◌<◌, Bool, true, false, cond, List, [], ◌∷◌, ◌++◌, length, take, All, Some, None, Option, IfSome, Result, Ok, Err, IfOk, refl, ap, sym, ◌∙◌, subst, arith}
use Rattle.std.specs.List.{slice_get}
use Rattle.std.specs.declared.alloc.AllocError.{AllocError}
use Rattle.std.proofs.lemmas.List.Elements.{All-take}
use Rattle.std.proofs.Math.Seq.{take-append_seam}
use mathlib.Core.List.{IsPrefix}
use Rattle.project_model.specs.declared.change.Change.{Change}
use Rattle.project_model.specs.Items.{Item}
use Rattle.project_model.specs.Projects.{ProjectData}
use Rattle.project_model.specs.Changes.{CanApply, put}
use Rattle.edit_entries.specs.Entries.{EntryData, EntryIsInRange}
use Rattle.edit_entries.specs.declared.fault.EditFault.{EditFault}
use Rattle.edit_rules.specs.EarlyLines.{is_same_at, serial_of_number, repeated_serial, repeated_at}
use Rattle.edit_rules.specs.EditChanges as histories
use Rattle.edit_rules.specs.Fitting.{Fits}
use Rattle.edit_rules.specs.Histories.{changes, project}
use Rattle.edit_rules.specs.Naming.{has_session_number}
use Rattle.edit_rules.specs.Verdicts.{first_of, verdict_lines, verdict, verdict_by}
use Rattle.edit_rules.specs.declared.verdict.Verdict.{Verdict}
use Rattle.edit_rules.specs.declared.verdict.Verdict.TheVariants as verdicts
use Rattle.edit_rules.proofs.Accepting.{accepted}
use Rattle.edit_rules.proofs.FitLemmas.{fits}
use Rattle.edit_rules.proofs.LongerHistories.{last_within, legal_take, project_push}
use Rattle.hall_log.specs.Histories.{IsHistory, MayFollow}
use Rattle.hall_core.specs.Histories.{IsJudged, IsNextChange, first_id_at}
use Rattle.hall_log.proofs.Prefixes.{prefix_whole}

-- each prefix of a history is one
pub history_prefix : (p h : List EntryData) → IsPrefix p h → IsHistory h → IsHistory p
history_prefix p h begins history =
    let front : take (length p) h ≡ p = ap (take (length p)) (sym begins.1) ∙ take-append_seam p begins.0 in
    subst IsHistory front (record { legal = legal_take h (length p) history.legal; in_range = All-take EntryIsInRange (length p) h history.in_range })

get_last : (xs : List EntryData) (e : EntryData) → slice_get (xs ++ e ∷ []) (length xs) ≡ Some e
get_last [] e = refl
get_last (x ∷ xs) e = get_last xs e

range_last : (xs : List EntryData) (e : EntryData) → All EntryIsInRange (xs ++ e ∷ []) → EntryIsInRange e
range_last [] e all = all 0 e (omega arith)
range_last (x ∷ xs) e all = range_last xs e (λ i d lt. all (suc i) d (omega (arith, lt)))

-- the last entry of a history was accepted
pub last_accepted : (xs : List EntryData) (e : EntryData) → IsHistory (xs ++ e ∷ []) → MayFollow xs e × EntryIsInRange e
last_accepted xs e history = (
  record {
    is = subst (λ (l : List EntryData). verdict l e ≡ verdicts.Accept (record { items = changes l e.edit })) (take-append_seam xs (e ∷ [])) (history.legal (length xs) e (get_last xs e));
  },
  range_last xs e history.in_range,
)

-- a verdict that was given
pub judged : (h : List EntryData) (e : EntryData) (r : Result Verdict AllocError) → IfOk r (λ v. v ≡ verdict h e) → IfOk r (λ v. IsJudged h e v)
judged h e (Ok v) is = record { is = sym is }
judged h e (Err x) is = tt

-- what is accepted may follow
pub may_follow : (h : List EntryData) (e : EntryData) (c : Change) → IsJudged h e (verdicts.Accept c) → MayFollow h e
may_follow h e c judged = record { is = (accepted h e c judged.is).follows }

pub change_is : (h : List EntryData) (e : EntryData) (c : Change) → IsJudged h e (verdicts.Accept c) → c.items ≡ changes h e.edit
change_is h e c judged = sym (accepted h e c judged.is).is_change

-- what the next entry changes can be put in
pub next_can : (before after : List EntryData) (items : List Item) → IsNextChange before after items → IsHistory after → CanApply items
next_can before after items next history =
    let e : EntryData = next.entry in
    let whole : IsHistory (before ++ e ∷ []) = subst IsHistory next.grown history in
    let last = last_accepted before e whole in
    let first : IsHistory before = history_prefix before (before ++ e ∷ []) (e ∷ [], refl) whole in
    let fit : Fits (project before) (changes before e.edit) = fits before e (record { items = changes before e.edit }) first.legal first.in_range last.1 last.0.is in
    subst CanApply (sym next.made) (record { distinct = fit.distinct; in_range = fit.in_range })

-- what an accepted entry changes can be put in
pub judged_can : (h : List EntryData) (e : EntryData) (c : Change) → IsHistory h → EntryIsInRange e → IsJudged h e (verdicts.Accept c) → CanApply c.items
judged_can h e c history range judged =
    let fit : Fits (project h) c.items = fits h e c history.legal history.in_range range judged.is in
    record { distinct = fit.distinct; in_range = fit.in_range }

-- the project after an accepted entry has its change
pub judged_project : (h : List EntryData) (e : EntryData) (c : Change) → IsJudged h e (verdicts.Accept c) → project (h ++ e ∷ []) ≡ put (project h) c.items
judged_project h e c judged = project_push h e ∙ ap (put (project h)) (sym (change_is h e c judged))

-- the project then is that of the longer list
pub next_project : (before after : List EntryData) (items : List Item) → IsNextChange before after items → put (project before) items ≡ project after
next_project before after items next =
    ap (put (project before)) next.made ∙ sym (project_push before next.entry) ∙ ap project (sym next.grown)

-- a copy that stands for the entries before takes the change
pub step_project : (p : ProjectData) (prefix before after : List EntryData) (items : List Item) → p ≡ project prefix → length prefix ≡ length before → IsPrefix prefix before
    → IsNextChange before after items → put p items ≡ project after
step_project p prefix before after items is len begins next =
    let same : prefix ≡ before = prefix_whole prefix before begins (omega (arith, len)) in
    ap (λ (q : ProjectData). put q items) (is ∙ ap project same) ∙ next_project before after items next

repeat_by : (a : Option ℕ) (f : Option EditFault) (c : histories.Change) (k : ℕ) → verdict_by a f c ≡ verdicts.Repeat k → a ≡ Some k
repeat_by (Some j) f c k e = let same : j ≡ k = cc e in ap Some same
repeat_by None (Some f) c k e = absurd (cc e)
repeat_by None None c k e = absurd (cc e)

at_found : (h : List EntryData) (e : EntryData) (found : Option ℕ) (k : ℕ) → repeated_at h e found ≡ Some k → found ≡ Some k
at_found h e None k at = absurd (cc at)
at_found h e (Some j) k at = go (is_same_at (slice_get h j) e) at
  where
    go : (b : Bool) → cond b (Some j) None ≡ Some k → Some j ≡ Some k
    go true is = is
    go false is = absurd (cc is)

-- what is repeated stands in the history
pub repeat_within : (h : List EntryData) (e : EntryData) (k : ℕ) → IsJudged h e (verdicts.Repeat k) → k < length h
repeat_within h e k judged =
    let found : serial_of_number h e ≡ Some k = at_found h e (serial_of_number h e) k (repeat_by (repeated_serial h e) (first_of (verdict_lines h e)) (changes h e.edit) k judged.is) in
    subst (λ (o : Option ℕ). IfSome o (λ j. j < length h)) found (last_within (has_session_number e.session e.number) h)

-- the id before the last entry
pub first_id_last : (h new : List EntryData) (e : EntryData) (serial : ℕ) → new ≡ h ++ e ∷ [] → serial ≡ length h → (project h).next_id ≡ first_id_at new serial
first_id_last h new e serial grown is =
    ap (λ (l : List EntryData). (project l).next_id) (sym (ap (λ (k : ℕ). take k new) is ∙ (ap (take (length h)) grown ∙ take-append_seam h (e ∷ []))))
