-- What is known of the numbers and of the objects of a legal history.
use Rattle.std.proofs.Common.{◌≡◌, ◌==◌, ◌&&◌, ℕ, zero, suc, ◌+◌, ◌<◌, ◌≤◌, Bool, true, false, not, List, [], ◌∷◌, ◌++◌, length, cond, Option, Some, None, IfSome, refl, sym, ap, subst, ◌∙◌, arith, append_assoc, append-nil}
use Rattle.std.specs.List.{slice_get}
use Rattle.std.specs.FinMap as finite
use Rattle.std.specs.FinMap.{len-empty}
use Rattle.std.specs.Ordering.{nat_cmp}
use Rattle.std.specs.Str.{bytes_eq}
use Rattle.std.proofs.lemmas.Bool.Decides.{nat_tests}
use Rattle.std.proofs.Math.Seq.{take-append_seam}
use Rattle.geda_defs.proofs.Bytes.{bytes_same}
use Rattle.project_model.specs.declared.change.Placed.{Placed}
use Rattle.edit_entries.specs.Entries.{EntryData}
use Rattle.edit_rules.specs.EarlyLines.{last_number, number_at, number_gap, entry_number}
use Rattle.edit_rules.specs.Histories.{changes, last_place, project}
use Rattle.edit_rules.specs.Naming.{has_session_number, is_of_session}
use Rattle.edit_rules.specs.Verdicts.{Legal, verdict_lines, verdict}
use Rattle.edit_rules.specs.declared.verdict.Verdict.TheVariants.{Accept}
use Rattle.edit_rules.proofs.Accepting.{accepted, no_fault, none_at, when_none}
use Rattle.edit_rules.proofs.LongerHistories.{last_push, last_within, project_push}

clash : {P : Type 0} → true ≡ false → P
clash e = absurd (cc e)

-- no number of a session is above its last, and the objects are no more than they may be
pub record IsOrderly (h : List EntryData) : Type 0 where
  pub above : (session : List ℕ) (m : ℕ) → last_number h session < m → last_place (has_session_number session m) h ≡ None
  pub few : finite.len (project h).objects ≤ 400000

pub get_seam : (h : List EntryData) (e : EntryData) (es : List EntryData) → slice_get (h ++ e ∷ es) (length h) ≡ Some e
get_seam [] e es = refl
get_seam (x ∷ h) e es = get_seam h e es

get_front : (h : List EntryData) (e : EntryData) (k : ℕ) → k < length h → slice_get (h ++ e ∷ []) k ≡ slice_get h k
get_front [] e k lt = absurd (omega arith)
get_front (x ∷ h) e zero lt = refl
get_front (x ∷ h) e (suc k) lt = get_front h e k (omega arith)

-- the last number of a session after one more entry
pub last_own : (h : List EntryData) (e : EntryData) (session : List ℕ) → bytes_eq session e.session ≡ true → last_number (h ++ e ∷ []) session ≡ e.number
last_own h e session is =
    ap (number_at (h ++ e ∷ [])) (last_push (is_of_session session) h e ∙ ap (λ (b : Bool). cond b (Some (length h)) (last_place (is_of_session session) h)) is)
    ∙ ap entry_number (get_seam h e [])

last_other : (h : List EntryData) (e : EntryData) (session : List ℕ) → bytes_eq session e.session ≡ false → last_number (h ++ e ∷ []) session ≡ last_number h session
last_other h e session is =
    ap (number_at (h ++ e ∷ [])) (last_push (is_of_session session) h e ∙ ap (λ (b : Bool). cond b (Some (length h)) (last_place (is_of_session session) h)) is)
    ∙ by (last_place (is_of_session session) h) (last_within (is_of_session session) h)
  where
    by : (o : Option ℕ) → IfSome o (λ k. k < length h) → number_at (h ++ e ∷ []) o ≡ number_at h o
    by None lt = refl
    by (Some k) lt = ap entry_number (get_front h e k lt)

apart : (m n : ℕ) → m < n → (m == n) ≡ false
apart m n lt = grind (arith, nat_tests)

same_by : (m n : ℕ) → not (m == n) ≡ false → m ≡ n
same_by m n e = grind (arith, nat_tests)

and_false : (a b : Bool) → b ≡ false → (a && b) ≡ false
and_false true b e = e
and_false false b e = refl

-- an entry of a number that is not this one
pub number_push : (h : List EntryData) (e : EntryData) (session : List ℕ) (m : ℕ) → has_session_number session m e ≡ false → last_place (has_session_number session m) h ≡ None
    → last_place (has_session_number session m) (h ++ e ∷ []) ≡ None
number_push h e session m other none =
    last_push (has_session_number session m) h e ∙ ap (λ (b : Bool). cond b (Some (length h)) (last_place (has_session_number session m) h)) other ∙ none

above_push : (h : List EntryData) (e : EntryData) → IsOrderly h → e.number ≡ last_number h e.session + 1
    → (session : List ℕ) (m : ℕ) → last_number (h ++ e ∷ []) session < m → last_place (has_session_number session m) (h ++ e ∷ []) ≡ None
above_push h e o next session m lt = by (bytes_eq session e.session) refl
  where
    by : (b : Bool) → bytes_eq session e.session ≡ b → last_place (has_session_number session m) (h ++ e ∷ []) ≡ None
    by true is =
        let own : last_number (h ++ e ∷ []) session ≡ e.number = last_own h e session is in
        let below : e.number < m = subst (λ (n : ℕ). n < m) own lt in
        let before : last_number h session ≡ last_number h e.session = ap (last_number h) (bytes_same session e.session is) in
        number_push h e session m (and_false (bytes_eq session e.session) (e.number == m) (apart e.number m below))
        (o.above session m (omega (arith, next, before, below)))
    by false is =
        let kept : last_number (h ++ e ∷ []) session ≡ last_number h session = last_other h e session is in
        number_push h e session m (ap (λ (b : Bool). b && (e.number == m)) is) (o.above session m (subst (λ (n : ℕ). n < m) kept lt))

orderly_push : (h : List EntryData) (e : EntryData) → IsOrderly h → verdict h e ≡ Accept (record { items = changes h e.edit }) → IsOrderly (h ++ e ∷ [])
orderly_push h e o ok =
    let fine : number_gap h e ≡ None = none_at (verdict_lines h e) 1 (no_fault h e _ ok) in
    let next : e.number ≡ last_number h e.session + 1 = same_by e.number (last_number h e.session + 1) (when_none _ _ fine) in
    record {
      above = above_push h e o next;
      few = subst (λ q. finite.len q.objects ≤ 400000) (sym (project_push h e)) (accepted h e _ ok).few_objects;
    }

orderly_none : IsOrderly []
orderly_none = record { above = λ session m lt. refl; few = let none = len-empty nat_cmp Placed in omega (arith, none) }

orderly_more : (h es : List EntryData) → IsOrderly h → Legal (h ++ es) → IsOrderly (h ++ es)
orderly_more h [] o legal = subst IsOrderly (sym (append-nil h)) o
orderly_more h (e ∷ es) o legal =
    let ok : verdict h e ≡ Accept (record { items = changes h e.edit }) =
    subst (λ (l : List EntryData). verdict l e ≡ Accept (record { items = changes l e.edit })) (take-append_seam h (e ∷ es)) (legal (length h) e (get_seam h e es)) in
    let same : (h ++ e ∷ []) ++ es ≡ h ++ e ∷ es = append_assoc h (e ∷ []) es in
    subst IsOrderly same (orderly_more (h ++ e ∷ []) es (orderly_push h e o ok) (subst Legal (sym same) legal))

pub orderly : (h : List EntryData) → Legal h → IsOrderly h
orderly h legal = orderly_more [] h orderly_none legal
