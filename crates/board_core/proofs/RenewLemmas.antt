-- Sheets that are grouped anew, one after the other.
use Rattle.std.proofs.Common.{◌≡◌, ◌≤◌, inl, inr, ℕ, Bool, true, false, List, [], ◌∷◌, ◌++◌, append_assoc, refl, sym, ap, subst, ◌∙◌, arith}
use Rattle.std.proofs.lemmas.List.{append-nil}
use Rattle.project_model.specs.Projects.{ProjectData}
use Rattle.group_runs.specs.Runs.{SheetName}
use Rattle.group_runs.specs.Sheets.{IsKept, KeepsGroups, KeepsOtherSheets, Rows, is_given_up, kept_at, row_at}
use Rattle.group_runs.proofs.RowLemmas.{same_or_apart}
use Rattle.board_core.specs.steps.Standing.{on_sheet}
use Rattle.board_core.specs.steps.Kept.{AreRenewed, HoldsProject, HoldsSheet, NoneGivenUp, Renews}
use Rattle.board_core.proofs.MemberLemmas.{in_either, in_left, in_right}
use Rattle.board_core.proofs.HoldLemmas.{bare, bare_sheet, holds_kept, kept_not_gone}

-- nothing is done for no sheets
pub renews_none : (p : ProjectData) (rows : Rows) (steps : ℕ) (sheets : List SheetName) → HoldsProject p rows → Renews p rows rows steps steps sheets
renews_none p rows steps sheets held = record {
  held = held;
  others = λ s n i. row_at rows s;
  still = λ s k. k;
  later = omega arith;
  free = λ h. omega arith;
}

-- one sheet
module _ (p : ProjectData) (old new : Rows) (before after : ℕ) (sheet : SheetName) where
  pub renews_one : HoldsProject p new → KeepsOtherSheets sheet old new → KeepsGroups old new → before ≤ after → (is_given_up (row_at old sheet) ≡ false → after ≤ before)
      → Renews p old new before after (sheet ∷ [])
  renews_one held others still later free = record {
    held = held;
    others = λ s n. others s (λ e. n (inl (sym e)));
    still = still;
    later = later;
    free = λ h. free (h sheet (inl refl));
  }

  pub renewed_one : KeepsOtherSheets sheet old new → IsKept (row_at new sheet) → AreRenewed old new (sheet ∷ [])
  renewed_one others kept = record {
    kept = λ s h. elim h [ inl e ↦ subst (λ x. IsKept (row_at new x)) e kept | inr k ↦ absurd k ];
    fewer = λ s e. elim (same_or_apart s sheet) [
      | inl same ↦ absurd (let clash : true ≡ false = sym e ∙ ap (λ x. is_given_up (row_at new x)) same ∙ kept_not_gone (row_at new sheet) kept in cc)
      | inr n ↦ ap is_given_up (sym (others s n)) ∙ e
    ];
  }

-- a sheet whose groups are kept
pub renewed_kept : (rows : Rows) (sheet : SheetName) → IsKept (row_at rows sheet) → AreRenewed rows rows (sheet ∷ [])
renewed_kept rows sheet kept = record { kept = λ s h. elim h [ inl e ↦ subst (λ x. IsKept (row_at rows x)) e kept | inr k ↦ absurd k ]; fewer = λ s e. e }

-- a sheet that has no conductors begins
module _ (old new : Rows) (sheet : SheetName) (not_kept : IsKept (row_at old sheet) → ⊥) (others : KeepsOtherSheets sheet old new) where
  pub begun_holds : (p : ProjectData) → HoldsProject p old → is_given_up (row_at old sheet) ≡ false → IsKept (row_at new sheet) → kept_at new ≡ kept_at old → HoldsProject p new
  begun_holds p held e kept same s = elim (same_or_apart s sheet) [
    | inl is ↦ subst (λ x. HoldsSheet (row_at new x) (on_sheet p x)) (sym is) (holds_kept (row_at new sheet) (on_sheet p sheet) kept ((λ i. same i sheet) ∙ bare (row_at old sheet) (on_sheet p sheet) (held sheet) not_kept ∙ sym (bare_sheet (row_at old sheet) (on_sheet p sheet) (held sheet) not_kept e)))
    | inr n ↦ subst (λ r. HoldsSheet r (on_sheet p s)) (sym (others s n)) (held s)
  ]

  pub begun_keeps : KeepsGroups old new
  begun_keeps s k = elim (same_or_apart s sheet) [
    | inl is ↦ absurd (not_kept (subst (λ x. IsKept (row_at old x)) is k))
    | inr n ↦ subst IsKept (sym (others s n)) k
  ]

-- some sheets, and then others
module _ (p : ProjectData) (old mid new : Rows) (a b c : ℕ) (xs ys : List SheetName) where
  pub renewed_more : Renews p mid new b c ys → AreRenewed old mid xs → AreRenewed mid new ys → AreRenewed old new (xs ++ ys)
  renewed_more next first second = record {
    kept = λ s h. elim (in_either s xs ys h) [ inl k ↦ next.still s (first.kept s k) | inr k ↦ second.kept s k ];
    fewer = λ s e. first.fewer s (second.fewer s e);
  }

  not_gone : AreRenewed old mid xs → NoneGivenUp old (xs ++ ys) → NoneGivenUp mid ys
  not_gone first none s h = by (is_given_up (row_at mid s)) refl
    where
      by : (t : Bool) → is_given_up (row_at mid s) ≡ t → is_given_up (row_at mid s) ≡ false
      by true e = absurd (let clash : true ≡ false = sym (first.fewer s e) ∙ none s (in_right s xs ys h) in cc)
      by false e = e

  pub renews_more : Renews p old mid a b xs → AreRenewed old mid xs → Renews p mid new b c ys → Renews p old new a c (xs ++ ys)
  renews_more first all second = record {
    held = second.held;
    others = λ s n. second.others s (λ h. n (in_right s xs ys h)) ∙ first.others s (λ h. n (in_left s xs ys h));
    still = λ s k. second.still s (first.still s k);
    later = let one = first.later in let two = second.later in omega arith;
    free = λ none. let one = first.free (λ s h. none s (in_left s xs ys h)) in let two = second.free (not_gone all none) in omega arith;
  }

-- what was done for some sheets was done for more
pub renews_part : (p : ProjectData) (old new : Rows) (a b : ℕ) (xs ys : List SheetName) → Renews p old new a b xs → Renews p old new a b (xs ++ ys)
renews_part p old new a b xs ys first = record {
  held = first.held;
  others = λ s n. first.others s (λ h. n (in_left s xs ys h));
  still = first.still;
  later = first.later;
  free = λ none. first.free (λ s h. none s (in_left s xs ys h));
}

-- on the way, some sheets are done, and some are left
pub record IsRenewing (p : ProjectData) (old now : Rows) (a b : ℕ) (all left : List SheetName) : Type 0 where
  pub done : List SheetName
  pub are : done ++ left ≡ all
  pub renews : Renews p old now a b done
  pub renewed : AreRenewed old now done

module _ (p : ProjectData) (old now new : Rows) (a b c : ℕ) (all xs ys : List SheetName) (way : IsRenewing p old now a b all (xs ++ ys)) (next : Renews p now new b c xs) where
  pub renewing_more : AreRenewed now new xs → IsRenewing p old new a c all ys
  renewing_more renewed = record {
    done = way.done ++ xs;
    are = append_assoc way.done xs ys ∙ way.are;
    renews = renews_more p old now new a b c way.done xs way.renews way.renewed next;
    renewed = renewed_more p old now new a b c way.done xs next way.renewed renewed;
  }

  -- where the way ends for want of memory
  pub renewing_breaks : Renews p old new a c all
  renewing_breaks =
      subst (Renews p old new a c) (append_assoc way.done xs ys ∙ way.are)
      (renews_part p old new a c (way.done ++ xs) ys (renews_more p old now new a b c way.done xs way.renews way.renewed next))

pub renewing_ends : (p : ProjectData) (old now : Rows) (a b : ℕ) (all : List SheetName) → IsRenewing p old now a b all [] → Renews p old now a b all × AreRenewed old now all
renewing_ends p old now a b all way =
    let same : way.done ≡ all = sym (append-nil way.done) ∙ way.are in
    (subst (Renews p old now a b) same way.renews, subst (AreRenewed old now) same way.renewed)
