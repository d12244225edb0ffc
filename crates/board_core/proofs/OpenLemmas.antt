-- Sheets that are opened, and the groups of all sheets of a project.
use Rattle.std.proofs.Common.{◌≡◌, ◌≤◌, ◌+◌, ◌⊎◌, inl, inr, ℕ, false, List, [], ◌∷◌, Option, Some, None, length, map, refl, sym, ap, subst, ◌∙◌, arith}
use Rattle.std.specs.FinMap.{empty, entries, len-empty, len-entries}
use Rattle.std.specs.List.{flat_map}
use Rattle.std.specs.Ordering.{nat_cmp}
use Rattle.std.proofs.lemmas.List.{length-map}
use Rattle.net_flood.specs.Grouping.{GroupsData}
use Rattle.project_model.specs.declared.change.Placed.{Placed}
use Rattle.project_model.specs.Projects.{ProjectData, empty_project}
use Rattle.group_runs.specs.Runs.{AreFree, BySheet, Coming, SheetName, SizesSum, sheets_in, with_all, without}
use Rattle.group_runs.specs.Sheets.{AreKept, IsKept, KeepsGroups, KeepsOtherSheets, KeepsUntouched, Rows, conductors_of, is_given_up, kept_at, row_at}
use Rattle.group_runs.proofs.GoneLemmas.{among_or_apart}
use Rattle.group_runs.proofs.RowLemmas.{same_or_apart}
use Rattle.sheet_groups.specs.Conductors.{conductors_at, sheet_conductors}
use Rattle.board_core.specs.steps.Members.{In}
use Rattle.board_core.specs.steps.Standing.{come}
use Rattle.board_core.specs.steps.Kept.{AreAllKept, AreBare, HoldsProject, HoldsSheet, IsGrouped, sheets_at}
use Rattle.board_core.proofs.MemberLemmas.{flat, in_map, mapped}
use Rattle.board_core.proofs.DrawnLemmas.{all_free, project_keys, sheet_of}
use Rattle.board_core.proofs.HoldLemmas.{among_kept, holds_kept, holds_on_ok, kept_not_gone}
use Rattle.board_core.proofs.BoardLemmas.{none_gone_up}

-- a bare sheet has no conductors
bare_of : (r : Option (Option GroupsData)) → HoldsSheet r empty → conductors_of r ≡ empty
bare_of None h = refl
bare_of (Some None) h = refl
bare_of (Some (Some g)) h = h.1

-- on the way, some sheets are opened, and some are left
pub record IsOpening (now : Rows) (all left : List SheetName) : Type 0 where
  pub bare : AreBare now
  pub kept : (s : SheetName) → In s all → IsKept (row_at now s) ⊎ In s left

pub opening_more : (now after : Rows) (all : List SheetName) (sheet : SheetName) (left : List SheetName) → IsOpening now all (sheet ∷ left) → IsKept (row_at after sheet) → kept_at after ≡ kept_at now
    → KeepsOtherSheets sheet now after → IsOpening after all left
opening_more now after all sheet left way opened same others = record {
  bare = λ s. elim (same_or_apart s sheet) [
    | inl e ↦ subst (λ x. HoldsSheet (row_at after x) empty × (is_given_up (row_at after x) ≡ false)) (sym e)
        (holds_kept (row_at after sheet) empty opened ((λ i. same i sheet) ∙ bare_of (row_at now sheet) (way.bare sheet).0), kept_not_gone (row_at after sheet) opened)
    | inr n ↦ subst (λ r. HoldsSheet r empty × (is_given_up r ≡ false)) (sym (others s n)) (way.bare s)
  ];
  kept = λ s h. elim (way.kept s h) [
    | inl k ↦ elim (same_or_apart s sheet) [
      | inl e ↦ inl (subst (λ x. IsKept (row_at after x)) (sym e) opened)
      | inr n ↦ inl (subst IsKept (sym (others s n)) k)
    ]
    | inr more ↦ elim more [ inl e ↦ inl (subst (λ x. IsKept (row_at after x)) e opened) | inr k ↦ inr k ]
  ];
}

pub opening_ends : (now : Rows) (all : List SheetName) → IsOpening now all [] → AreAllKept now all
opening_ends now all way s h = elim (way.kept s h) [ inl k ↦ k | inr f ↦ absurd f ]

-- no sheets are bare
pub none_bare : AreBare []
none_bare s = (refl, refl)

module _ (p : ProjectData) (opened : Rows) (bare : AreBare opened) (kept : AreAllKept opened (sheets_at (entries p.objects))) where
  abbrev pub all : List Coming
  all = map come (sheet_conductors p)

  nothing : kept_at opened ≡ (λ s. empty)
  nothing = λ i s. bare_of (row_at opened s) (bare s).0 i

  come_kept : (cs : List Coming) → ((c : Coming) → In c cs → IsKept (row_at opened c.0)) → AreKept opened (sheets_in cs)
  come_kept [] k = tt
  come_kept (c ∷ cs) k = (k c (inl refl), come_kept cs (λ d h. k d (inr h)))

  pub all_kept : AreKept opened (sheets_in all)
  all_kept = come_kept all (λ c h.
      let m = mapped come c (sheet_conductors p) h in
      let f = flat (conductors_at p) m.of (entries p.objects) m.there in
      kept c.0 (subst (λ s. In s (sheets_at (entries p.objects))) (sym (sheet_of p f.of m.of f.has) ∙ ap (λ (x : Coming). x.0) m.is) (in_map (λ (row : ℕ × Placed). row.1.sheet) f.of (entries p.objects) f.there)))

  pub opened_free : AreFree (without (kept_at opened) []) all
  opened_free = subst (λ (at : BySheet). AreFree at all) (sym nothing) (all_free (sheet_conductors p) (project_keys p))

  pub all_grouped : (new : Rows) (steps : ℕ) → KeepsUntouched [] all opened new → KeepsGroups opened new → kept_at new ≡ with_all (without (kept_at opened) []) all
      → ((sum : ℕ) → SizesSum (kept_at opened) [] sum → steps ≤ 0 + (sum + length all)) → IsGrouped p new steps
  all_grouped new steps others still are few = record {
    held = holds_on_ok (λ s. empty) opened new [] all (λ s. (bare s).0) tt all_kept others still are;
    fresh = none_gone_up new fresh;
    few = let bound = few 0 refl in let long = length-map (sheet_conductors p) come in omega arith;
  }
    where
      fresh : (s : SheetName) → is_given_up (row_at new s) ≡ false
      fresh s = elim (among_or_apart s (sheets_in all)) [
        | inl m ↦ kept_not_gone (row_at new s) (still s (among_kept opened s (sheets_in all) m all_kept))
        | inr a ↦ ap is_given_up (others s tt a) ∙ (bare s).1
      ]

no_entries : (es : List (ℕ × Placed)) → length es ≡ 0 → es ≡ []
no_entries [] e = refl
no_entries (row ∷ es) e = absurd (omega (arith, e))

-- the empty project has no objects
pub no_objects : entries empty_project.objects ≡ []
no_objects = no_entries (entries empty_project.objects) (sym (len-entries empty_project.objects) ∙ len-empty nat_cmp Placed)

-- nor has it conductors
pub empty_holds : HoldsProject empty_project []
empty_holds s =
    ap (λ (rows : List (ℕ × Placed)). with_all (λ t. empty) (map come (flat_map (conductors_at empty_project) rows)) s)
    no_objects
