-- Sheets whose groups are given up, and groups that stay.
use Rattle.std.proofs.Common.{◌≡◌, ◌≤◌, arith, ◌⊎◌, inl, inr, Option, None, Some, List, [], ◌∷◌, sym, subst, ◌∙◌}
use Rattle.net_flood.specs.Grouping.{GroupsData}
use Rattle.group_runs.specs.Runs.{SheetName, Coming, Leaving, sheets_in, sheets_of}
use Rattle.group_runs.specs.Sheets.{AreGone, AreKept, HasEntry, IsAmong, IsApart, IsGone, IsKept, IsSound, KeepsGroups, KeepsOtherSheets, KeepsUntouched, Rows, asked_sum, row_at}
use Rattle.group_runs.specs.steps.Running.{IsGivingUp, invalidated}
use Rattle.group_runs.proofs.RowLemmas.{same_or_apart}

pub giving_begins : (before : Rows) (all : List SheetName) → IsGivingUp before before all all
giving_begins before all = record {
  gone = λ s m. inr m;
  others = λ s h. (λ i. row_at before s, h);
  stays = λ s h. h;
  entries = λ s h. h;
  counted = omega arith;
}

is_gone : (r : Option (Option GroupsData)) → IsGone (invalidated r)
is_gone None = tt
is_gone (Some row) = tt

pub giving_more : (before now after : Rows) (all : List SheetName) (t : SheetName) (ts : List SheetName) → IsGivingUp before now all (t ∷ ts)
    → row_at after t ≡ invalidated (row_at now t) → KeepsOtherSheets t now after → asked_sum after ≤ asked_sum now → IsGivingUp before after all ts
giving_more before now after all t ts giving gone others fewer = record {
  gone = λ s m. elim (giving.gone s m) [
    | inl g ↦ inl (still s g)
    | inr more ↦ elim more [
      | inl e ↦ inl (subst (λ x. IsGone (row_at after x)) (sym e) here)
      | inr k ↦ inr k
    ]
  ];
  others = λ s h. (others s ((giving.others s h).1.0) ∙ (giving.others s h).0, (giving.others s h).1.1);
  stays = λ s h. still s (giving.stays s h);
  entries = λ s h. entry_still s (giving.entries s h);
  counted = let earlier = giving.counted in omega arith;
}
  where
    here : IsGone (row_at after t)
    here = subst IsGone (sym gone) (is_gone (row_at now t))

    has_entry : (r : Option (Option GroupsData)) → HasEntry r → HasEntry (invalidated r)
    has_entry None h = h
    has_entry (Some row) h = tt

    entry_still : (s : SheetName) → HasEntry (row_at now s) → HasEntry (row_at after s)
    entry_still s h = elim (same_or_apart s t) [
      | inl e ↦ subst (λ x. HasEntry (row_at after x)) (sym e) (subst HasEntry (sym gone) (has_entry (row_at now t) (subst (λ x. HasEntry (row_at now x)) e h)))
      | inr n ↦ subst HasEntry (sym (others s n)) h
    ]

    still : (s : SheetName) → IsGone (row_at now s) → IsGone (row_at after s)
    still s g = elim (same_or_apart s t) [
      | inl e ↦ subst (λ x. IsGone (row_at after x)) (sym e) here
      | inr n ↦ subst IsGone (sym (others s n)) g
    ]

pub giving_ends : (before now : Rows) (all : List SheetName) → IsGivingUp before now all [] → AreGone all now
giving_ends before now all giving s m = elim (giving.gone s m) [ inl g ↦ g | inr f ↦ absurd f ]

pub among_or_apart : (s : SheetName) (ss : List SheetName) → IsAmong s ss ⊎ IsApart s ss
among_or_apart s [] = inr tt
among_or_apart s (t ∷ ts) = elim (same_or_apart s t) [
  | inl e ↦ inl (inl e)
  | inr n ↦ elim (among_or_apart s ts) [
    | inl m ↦ inl (inr m)
    | inr h ↦ inr (n, h)
  ]
]

gone_sound : (r : Option (Option GroupsData)) → IsGone r → IsSound r
gone_sound None g = tt
gone_sound (Some None) g = tt
gone_sound (Some (Some x)) g = absurd g

kept_sound : (r : Option (Option GroupsData)) → IsKept r → IsSound r
kept_sound None k = tt
kept_sound (Some None) k = tt
kept_sound (Some (Some x)) k = k

pub sound_cases : (r : Option (Option GroupsData)) → IsSound r → IsKept r ⊎ IsGone r
sound_cases None k = inr tt
sound_cases (Some None) k = inr tt
sound_cases (Some (Some x)) k = inl k

pub both : (r : Option (Option GroupsData)) → IsKept r → IsGone r → ⊥
both None k g = k
both (Some None) k g = k
both (Some (Some x)) k g = g

-- a sheet that is given up is none of those that are kept
pub apart_from_kept : (rows : Rows) (s : SheetName) → IsGone (row_at rows s) → (ss : List SheetName) → AreKept rows ss → IsApart s ss
apart_from_kept rows s g [] k = tt
apart_from_kept rows s g (t ∷ ts) k = (λ e. both (row_at rows t) k.0 (subst (λ x. IsGone (row_at rows x)) e g), apart_from_kept rows s g ts k.1)

module _ (old new : Rows) (leaving : List Leaving) (coming : List Coming) (sound : (s : SheetName) → IsSound (row_at old s)) (others : KeepsUntouched leaving coming old new) where
  pub sound_on_ok : AreKept old (sheets_of leaving) → AreKept old (sheets_in coming) → KeepsGroups old new → (s : SheetName) → IsSound (row_at new s)
  sound_on_ok first second kept s = elim (sound_cases (row_at old s) (sound s)) [
    | inl k ↦ kept_sound (row_at new s) (kept s k)
    | inr g ↦ subst IsSound (sym (others s (apart_from_kept old s g (sheets_of leaving) first) (apart_from_kept old s g (sheets_in coming) second))) (sound s)
  ]

  pub sound_on_err : AreGone (sheets_of leaving) new → AreGone (sheets_in coming) new → (s : SheetName) → IsSound (row_at new s)
  sound_on_err first second s = elim (among_or_apart s (sheets_of leaving)) [
    | inl m ↦ gone_sound (row_at new s) (first s m)
    | inr a ↦ elim (among_or_apart s (sheets_in coming)) [
      | inl m ↦ gone_sound (row_at new s) (second s m)
      | inr b ↦ subst IsSound (sym (others s a b)) (sound s)
    ]
  ]
