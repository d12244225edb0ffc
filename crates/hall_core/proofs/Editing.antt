-- What a step of the pen says at another moment, and to its seat.
use Rattle.std.proofs.Common.{◌≡◌, ℕ, ◌≤◌, ◌+◌, min, List, [], ◌∷◌, ◌++◌, length, take, ap, sym, ◌∙◌, subst, inl, inr, ⊎_elim}
use Rattle.std.proofs.Math.Seq.{take-append_seam}
use mathlib.Core.List.{IsPrefix}
use Rattle.geda_defs.specs.Causes.{HasRisen}
use Rattle.edit_entries.specs.Entries.{EntryData}
use Rattle.edit_entries.specs.declared.fault.EditFault.{EditFault}
use Rattle.edit_rules.specs.declared.verdict.Verdict.{Verdict}
use Rattle.edit_rules.specs.declared.verdict.Verdict.TheVariants as verdicts
use Rattle.keeper_core.specs.declared.reply.Reply.{Reply}
use Rattle.keeper_core.specs.declared.reply.Reply.TheVariants as replies
use Rattle.hall_log.specs.Histories.{MayFollow}
use Rattle.hall_core.specs.Histories.{IsJudged, first_id_at}
use Rattle.hall_core.specs.Seats.{SeatData}
use Rattle.hall_core.specs.Pens.{Edits, IsSameButShown, PenData, Steps, TellsNoFault}

-- a verdict after one list is one after an equal list
pub judged_at : (h l : List EntryData) (e : EntryData) (v w : Verdict) → h ≡ l → v ≡ w → IsJudged h e v → IsJudged l e w
judged_at h l e v w same is judged = subst (λ (k : List EntryData). IsJudged k e w) same (subst (λ (u : Verdict). IsJudged h e u) is judged)

module _ (p q : PenData) (same : IsSameButShown p q) where
  tells : (n : PenData) → TellsNoFault q n → TellsNoFault p n
  tells n t = (t.0 ∙ same.total, subst (λ (k : ℕ). k ≤ n.faults) same.faults t.1)

  -- what is published does not matter to a step
  pub steps_same : (e : EntryData) (r : Reply) (n : PenData) → Steps q e r n → Steps p e r n
  steps_same e (replies.Done serial first_id front) n st = (
    subst (λ (l : List EntryData). MayFollow l e) same.history st.0,
    st.1 ∙ ap (λ (l : List EntryData). l ++ e ∷ []) same.history,
    st.2 ∙ ap length same.history,
    st.3,
    st.4,
    tells n st.5,
  )
  steps_same e (replies.Repeat serial first_id front) n st = (
    subst (λ (l : List EntryData). IsJudged l e (verdicts.Repeat serial)) same.history st.0,
    st.1 ∙ same.history,
    st.2,
    st.3,
    tells n st.4,
  )
  steps_same e (replies.Refused fault front) n st = (
    subst (λ (l : List EntryData). IsJudged l e (verdicts.Refused fault)) same.history st.0,
    st.1 ∙ same.history,
    st.2,
    tells n st.3,
  )
  steps_same e (replies.KeeperFault front) n st = (
    subst (λ (l : List EntryData). MayFollow l e) same.history st.0,
    st.1 ∙ same.history,
    st.2,
    st.3 ∙ same.total,
    subst (λ (k : ℕ). HasRisen k n.faults) same.faults st.4,
    st.5,
  )
  steps_same e replies.NoEntry n st = st
  steps_same e replies.NoMemory n st = (
    ⊎_elim (λ t. inl (t ∙ same.history)) (λ t. inr (t ∙ ap (λ (l : List EntryData). l ++ e ∷ []) same.history)) st.0,
    tells n st.1,
  )

module _ (s t : SeatData) (p q : PenData) (e : EntryData) (seen : t.seen ≡ p.history) (begins : IsPrefix s.seen t.seen) where
  pub edits_repeat : (serial first_id front : ℕ) → t.losses ≡ s.losses → Steps p e (replies.Repeat serial first_id front) q → Edits s e (replies.Repeat serial first_id front) t
  edits_repeat serial first_id front lost st = (
    begins,
    subst (λ (l : List EntryData). IsJudged l e (verdicts.Repeat serial)) (sym seen) st.0,
    st.2 ∙ ap (λ (l : List EntryData). first_id_at l serial) (st.1 ∙ sym seen),
    st.3.3 ∙ ap length (st.1 ∙ sym seen),
    lost,
  )

  pub edits_refused : (fault : EditFault) (front : ℕ) → t.losses ≡ s.losses → Steps p e (replies.Refused fault front) q → Edits s e (replies.Refused fault front) t
  edits_refused fault front lost st = (
    begins,
    subst (λ (l : List EntryData). IsJudged l e (verdicts.Refused fault)) (sym seen) st.0,
    st.2.3 ∙ ap length (st.1 ∙ sym seen),
    lost,
  )

  pub edits_fault : (front : ℕ) → t.losses ≡ min (s.losses + 1) 4294967295 → Steps p e (replies.KeeperFault front) q → Edits s e (replies.KeeperFault front) t
  edits_fault front lost st = (
    begins,
    subst (λ (l : List EntryData). MayFollow l e) (sym seen) st.0,
    st.2.3 ∙ ap length (st.1 ∙ sym seen),
    lost,
  )

  -- u is the seat once it has learned of its entry
  pub edits_done : (u : SeatData) (serial first_id front : ℕ) → u.seen ≡ q.history → u.losses ≡ s.losses → Steps p e (replies.Done serial first_id front) q → Edits s e (replies.Done serial first_id front) u
  edits_done u serial first_id front now lost st =
      let first : take serial u.seen ≡ p.history =
      ap (λ (k : ℕ). take k u.seen) st.2 ∙ (ap (take (length p.history)) (now ∙ st.1) ∙ take-append_seam p.history (e ∷ [])) in (
        subst (IsPrefix s.seen) (seen ∙ sym first) begins,
        now ∙ (st.1 ∙ ap (λ (l : List EntryData). l ++ e ∷ []) (sym first)),
        subst (λ (l : List EntryData). MayFollow l e) (sym first) st.0,
        st.3 ∙ ap (λ (l : List EntryData). first_id_at l serial) (sym now),
        st.4.3 ∙ ap length (sym now),
        lost,
      )
