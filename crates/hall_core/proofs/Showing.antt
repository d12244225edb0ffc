-- How the history, the list that all share and what is published stay together.
use Rattle.std.proofs.Common.{◌≡◌, ℕ, ◌==◌, ◌≤◌, ◌<◌, ◌+◌, true, false, List, [], ◌∷◌, ◌++◌, length, fold, cond, Option, Some, None, refl, ap, sym, ◌∙◌, subst, inl, inr, ⊎_elim, arith, length-append}
use Rattle.std.specs.List.{slice_get}
use Rattle.std.proofs.lemmas.Bool.Decides.{nat_tests}
use mathlib.Core.List.{IsPrefix}
use Rattle.project_model.specs.declared.change.Change.{Change}
use Rattle.edit_entries.specs.Entries.{EntryData, EntryIsInRange}
use Rattle.edit_rules.specs.declared.verdict.Verdict.TheVariants.{Accept}
use Rattle.hall_log.specs.Histories.{IsHistory, MayFollow}
use Rattle.hall_core.specs.Histories.{IsJudged, IsNextChange}
use Rattle.hall_core.specs.BoardSteps.{StepData, applied_to}
use Rattle.hall_core.specs.steps.Publishing.{IsPublished, MakesHistory}
use Rattle.hall_log.proofs.HistoryLemmas.{history_push}
use Rattle.hall_core.proofs.HistoryLemmas.{change_is, last_accepted, may_follow}
use Rattle.hall_log.proofs.Prefixes.{prefix_self, prefix_more}

whole_next : (f h : List EntryData) (e : EntryData) → IsPrefix f h → length h ≤ length f + 1 → slice_get h (length f) ≡ Some e → f ++ e ∷ [] ≡ h
whole_next [] [] e p le at = absurd (cc at)
whole_next [] (x ∷ []) e p le at = let same : x ≡ e = cc at in ap (λ y. y ∷ []) (sym same)
whole_next [] (x ∷ y ∷ ys) e p le at = absurd (omega (arith, le))
whole_next (a ∷ f) [] e p le at = absurd (cc (p.1))
whole_next (a ∷ f) (b ∷ h) e p le at =
    let heads : a ≡ b = cc (p.1) in
    let rest = whole_next f h e (p.0, cc (p.1)) (omega (arith, le)) at in
    cc (heads, rest)

none_left : (f h : List EntryData) → IsPrefix f h → slice_get h (length f) ≡ None → f ≡ h
none_left [] [] p at = refl
none_left [] (x ∷ h) p at = absurd (cc at)
none_left (a ∷ f) [] p at = absurd (cc (p.1))
none_left (a ∷ f) (b ∷ h) p at =
    let heads : a ≡ b = cc (p.1) in
    let rest = none_left f h (p.0, cc (p.1)) at in
    cc (heads, rest)

module _ (h f p : List EntryData) (ops : List StepData) (kept : Option Change) (i : IsPublished h f p ops kept) where
  pub listed_begins : IsPrefix f h × (length h ≤ length f + 1)
  listed_begins =
      ⊎_elim
      (λ (t : f ≡ p). subst (λ l. IsPrefix l h × (length h ≤ length l + 1)) (sym t) (i.begins, i.close))
      (λ (t : f ≡ h). subst (λ l. IsPrefix l h × (length h ≤ length l + 1)) (sym t) (prefix_self h, omega arith))
      i.is_listed

  -- where no entry is left, all are listed
  pub all_listed : (n : ℕ) → n ≡ length f → slice_get h n ≡ None → f ≡ h
  all_listed n is at = none_left f h listed_begins.0 (subst (λ k. slice_get h k ≡ None) is at)

  -- the entry that is not listed yet is the last one
  pub goes_on : (n : ℕ) (e : EntryData) → n ≡ length f → slice_get h n ≡ Some e → (f ++ e ∷ [] ≡ h) × MayFollow f e
  goes_on n e is at =
      let b = listed_begins in
      let whole = whole_next f h e b.0 b.1 (subst (λ k. slice_get h k ≡ Some e) is at) in
      (whole, (last_accepted f e (subst IsHistory (sym whole) i.history)).0)

  pub lists : (f' : List EntryData) → f' ≡ h → IsPublished h f' p ops kept
  lists f' all = record { history = i.history; begins = i.begins; close = i.close; is_listed = inr all; makes = go kept i.makes }
    where
      go : (k : Option Change) → MakesHistory h f p ops k → MakesHistory h f' p ops k
      go (Some c) m = m
      go None m = (m.0, all)

applied_once : (p : List EntryData) (op : StepData) → op.before ≡ p → fold applied_to p (op ∷ []) ≡ op.after
applied_once p op is =
    let same : (length p == length op.before) ≡ true = let l = ap length is in grind (arith, nat_tests) in
    ap (λ b. cond b op.after p) same

-- the writer takes the kept change
pub appends : (h f p : List EntryData) (ops : List StepData) (kept : Option Change) (c : Change) (op : StepData) → IsPublished h f p ops kept → kept ≡ Some c → f ≡ h
    → op.before ≡ p → op.after ≡ f → IsPublished h f p (ops ++ op ∷ []) None
appends h f p ops kept c op i is listed before after =
    let m : MakesHistory h f p ops (Some c) = subst (MakesHistory h f p ops) is i.makes in
    let all : fold applied_to p (ops ++ op ∷ []) ≡ h = ap (λ l. fold applied_to p (l ++ op ∷ [])) m.0 ∙ (applied_once p op before ∙ (after ∙ listed)) in
    record { history = i.history; begins = i.begins; close = i.close; is_listed = i.is_listed; makes = (all, listed) }

-- what is kept is the next change
pub next_change : (h f p : List EntryData) (ops : List StepData) (kept : Option Change) (c : Change) → IsPublished h f p ops kept → kept ≡ Some c → IsNextChange p h c.items
next_change h f p ops kept c i is = (subst (MakesHistory h f p ops) is i.makes).1

fold_same : {A : Type 0} (f : List EntryData → A → List EntryData) (g : List EntryData → A → List EntryData) (x : List EntryData) (ops : List A) → ((xs : List EntryData) (op : A) → f xs op ≡ g xs op) → fold f x ops ≡ fold g x ops
fold_same f g x [] same = refl
fold_same f g x (op ∷ ops) same = ap (λ y. fold f y ops) (same x op) ∙ fold_same f g (g x op) ops same

pub folds : {S : Type 0} (state list : S → List EntryData) (applied : List EntryData → StepData → List EntryData) (s t : S) (ops : List StepData) → ((x : S) → state x ≡ list x) → ((xs : List EntryData) (op : StepData) → applied xs op ≡ applied_to xs op)
    → state t ≡ fold applied (state s) ops → list t ≡ fold applied_to (list s) ops
folds state list applied s t ops lists applies is = sym (lists t) ∙ is ∙ fold_same applied applied_to (state s) ops applies ∙ ap (λ x. fold applied_to x ops) (lists s)

-- what waits is published
pub all_shown : (h f p p' : List EntryData) (ops ops' : List StepData) (kept : Option Change) → IsPublished h f p ops kept → kept ≡ None → p' ≡ fold applied_to p ops → ops' ≡ []
    → IsPublished h f p' ops' kept × (p' ≡ h)
all_shown h f p p' ops ops' kept i is shown none =
    let m : MakesHistory h f p ops None = subst (MakesHistory h f p ops) is i.makes in
    let all : p' ≡ h = shown ∙ m.0 in
    let made : MakesHistory h f p' ops' kept = subst (MakesHistory h f p' ops') (sym is) (ap (fold applied_to p') none ∙ all, m.1) in (
      record {
        history = i.history;
        begins = subst (λ l. IsPrefix l h) (sym all) (prefix_self h);
        close = let l = ap length all in omega (arith, l);
        is_listed = inr m.1;
        makes = made;
      },
      all,
    )

-- nothing waits, so that all is published
pub none_waits : (h f p : List EntryData) (ops : List StepData) (kept : Option Change) → IsPublished h f p ops kept → kept ≡ None → (0 < length ops → false ≡ true) → (p ≡ h) × (ops ≡ [])
none_waits h f p [] kept i is none = ((subst (MakesHistory h f p []) is i.makes).0, refl)
none_waits h f p (op ∷ ops) kept i is none = let t = none (omega arith) in absurd (cc t)

-- an accepted entry comes last, and its change is kept
pub takes_in : (h f p : List EntryData) (ops : List StepData) (old : Option Change) (e : EntryData) (change kept : Change) → IsPublished h f p ops old → p ≡ h → ops ≡ []
    → IsJudged h e (Accept change) → EntryIsInRange e → kept.items ≡ change.items → IsPublished (h ++ e ∷ []) f p ops (Some kept)
takes_in h f p ops old e change kept i all none judged range same =
    let may : MayFollow h e = may_follow h e change judged in
    record {
      history = history_push h e i.history may range;
      begins = subst (λ l. IsPrefix l (h ++ e ∷ [])) (sym all) (prefix_more h (e ∷ []));
      close = let l = ap length all in omega (arith, l, length-append h (e ∷ []));
      is_listed = inl (⊎_elim (λ t. t) (λ t. t ∙ sym all) i.is_listed);
      makes = (
        none,
        subst (λ (l : List EntryData). IsNextChange l (h ++ e ∷ []) kept.items) (sym all) (record {
          entry = e;
          grown = refl;
          made = same ∙ change_is h e change judged;
        }),
      );
    }

-- a history that is published whole
pub shown_at_first : (h f p : List EntryData) (ops : List StepData) → IsHistory h → f ≡ h → p ≡ h → ops ≡ [] → IsPublished h f p ops None
shown_at_first h f p ops history listed shown none =
    record {
      history = history;
      begins = subst (λ l. IsPrefix l h) (sym shown) (prefix_self h);
      close = let l = ap length shown in omega (arith, l);
      is_listed = inl (cc (listed, shown));
      makes = (ap (fold applied_to p) none ∙ shown, listed);
    }
