-- The groups that are kept are those of the conductors of a project, through each change.
use Rattle.std.proofs.Common.{◌≡◌, ◌≢◌, ◌≤◌, ◌+◌, inl, inr, ℕ, true, false, List, [], ◌∷◌, Option, Some, None, length, map, refl, sym, ap, subst, ◌∙◌, arith}
use Rattle.std.specs.FinMap.{empty, entries, get, get-empty}
use Rattle.std.proofs.lemmas.Option.{none-some}
use Rattle.std.proofs.lemmas.Slice.Eq.{bytes_eq-Decides}
use Rattle.geda_geom.specs.declared.conductor.Conductor.{Conductor}
use Rattle.geda_geom.specs.declared.conductor.Key.{Key}
use Rattle.geda_geom.specs.Keys.{by_key}
use Rattle.net_flood.specs.Grouping.{Conductors, GroupsData}
use Rattle.project_model.specs.declared.change.Placed.{Placed}
use Rattle.project_model.specs.Projects.{ProjectData, is_on}
use Rattle.group_runs.specs.Runs.{AreFree, BySheet, Coming, Leaving, SheetName, SizesSum, sheets_in, sheets_of, with_all, without}
use Rattle.group_runs.specs.Sheets.{AreGone, AreKept, HasEntry, IsAmong, IsApart, IsGone, IsKept, KeepsEntries, KeepsGroups, KeepsOtherSheets, KeepsUntouched, Rows, conductors_of, is_given_up, kept_at, row_at}
use Rattle.group_runs.proofs.GoneLemmas.{among_or_apart}
use Rattle.group_runs.proofs.RowLemmas.{same_or_apart}
use Rattle.group_runs.proofs.ValueLemmas.{AreAlike, with_alike, without_alike}
use Rattle.sheet_groups.specs.Conductors.{SheetConductor, conductors_at, sheet_conductors}
use Rattle.board_core.specs.steps.Members.{Distinct, In}
use Rattle.board_core.specs.steps.Standing.{come, drawn_in, on_sheet, rows_on}
use Rattle.board_core.specs.steps.Kept.{Holds, HoldsProject, HoldsSheet}
use Rattle.board_core.proofs.MemberLemmas.{distinct_filter, filtered, flat, in_filter, in_flat, in_map, mapped}
use Rattle.board_core.proofs.StandLemmas.{are_free, same_conductors, with_apart, with_cases, with_has, without_apart}
use Rattle.board_core.proofs.DrawnLemmas.{came, coming_distinct, conductor, ids_distinct, keys_distinct, project_keys, sheet_of, stands, stood}

-- a sheet whose groups are kept has just its conductors
kept_holds : (r : Option (Option GroupsData)) (cs : Conductors) → HoldsSheet r cs → IsKept r → conductors_of r ≡ cs
kept_holds None cs h k = absurd k
kept_holds (Some None) cs h k = absurd k
kept_holds (Some (Some g)) cs h k = h.1

pub holds_kept : (r : Option (Option GroupsData)) (cs : Conductors) → IsKept r → conductors_of r ≡ cs → HoldsSheet r cs
holds_kept None cs k e = absurd k
holds_kept (Some None) cs k e = absurd k
holds_kept (Some (Some g)) cs k e = (k, e)

-- one whose groups are not kept has none
pub bare : (r : Option (Option GroupsData)) (cs : Conductors) → HoldsSheet r cs → (IsKept r → ⊥) → conductors_of r ≡ empty
bare None cs h n = refl
bare (Some None) cs h n = refl
bare (Some (Some g)) cs h n = absurd (n h.0)

-- without an entry that was given up, it has no conductors at all
pub bare_sheet : (r : Option (Option GroupsData)) (cs : Conductors) → HoldsSheet r cs → (IsKept r → ⊥) → is_given_up r ≡ false → cs ≡ empty
bare_sheet None cs h n e = h
bare_sheet (Some None) cs h n e = absurd (let clash : true ≡ false = e in cc)
bare_sheet (Some (Some g)) cs h n e = absurd (n h.0)

gone_entry : (r : Option (Option GroupsData)) (cs : Conductors) → IsGone r → HasEntry r → HoldsSheet r cs
gone_entry None cs g h = absurd h
gone_entry (Some None) cs g h = tt
gone_entry (Some (Some x)) cs g h = absurd g

pub kept_entry : (r : Option (Option GroupsData)) → IsKept r → HasEntry r
kept_entry None k = k
kept_entry (Some row) k = tt

-- what is kept is not given up
pub kept_not_gone : (r : Option (Option GroupsData)) → IsKept r → is_given_up r ≡ false
kept_not_gone None k = refl
kept_not_gone (Some None) k = absurd k
kept_not_gone (Some (Some g)) k = refl

pub among_kept : (rows : Rows) (s : SheetName) (ss : List SheetName) → IsAmong s ss → AreKept rows ss → IsKept (row_at rows s)
among_kept rows s [] m k = absurd m
among_kept rows s (t ∷ ts) (inl e) k = subst (λ x. IsKept (row_at rows x)) (sym e) k.0
among_kept rows s (t ∷ ts) (inr m) k = among_kept rows s ts m k.1

apart_left : (s : SheetName) (ls : List Leaving) → IsApart s (sheets_of ls) → (l : Leaving) → In l ls → l.0 ≢ s
apart_left s [] a l h = absurd h
apart_left s (x ∷ ls) a l (inl e) = λ is. a.0 (sym is ∙ sym (ap (λ (y : Leaving). y.0) e))
apart_left s (x ∷ ls) a l (inr h) = apart_left s ls a.1 l h

apart_come : (s : SheetName) (cs : List Coming) → IsApart s (sheets_in cs) → (c : Coming) → In c cs → c.0 ≢ s
apart_come s [] a c h = absurd h
apart_come s (x ∷ cs) a c (inl e) = λ is. a.0 (sym is ∙ sym (ap (λ (y : Coming). y.0) e))
apart_come s (x ∷ cs) a c (inr h) = apart_come s cs a.1 c h

pub alike_holds : (at : BySheet) (rows : Rows) → Holds at rows → AreAlike rows (kept_at rows) at
alike_holds at rows held s k = kept_holds (row_at rows s) (at s) (held s) k

-- conductors left and came
module _ (at : BySheet) (old new : Rows) (ls : List Leaving) (cs : List Coming) (held : Holds at old) (first : AreKept old (sheets_of ls)) (second : AreKept old (sheets_in cs))
    (others : KeepsUntouched ls cs old new) where
  pub holds_on_ok : KeepsGroups old new → kept_at new ≡ with_all (without (kept_at old) ls) cs → Holds (with_all (without at ls) cs) new
  holds_on_ok still are s = elim (among_or_apart s (sheets_of ls)) [
    | inl m ↦ was_kept (among_kept old s (sheets_of ls) m first)
    | inr a ↦ elim (among_or_apart s (sheets_in cs)) [
      | inl m ↦ was_kept (among_kept old s (sheets_in cs) m second)
      | inr b ↦
          let same : with_all (without at ls) cs s ≡ at s = with_apart (without at ls) cs s (apart_come s cs b) ∙ without_apart at ls s (apart_left s ls a) in
          subst (λ r. HoldsSheet r (with_all (without at ls) cs s)) (sym (others s a b)) (subst (HoldsSheet (row_at old s)) (sym same) (held s))
    ]
  ]
    where
      was_kept : IsKept (row_at old s) → HoldsSheet (row_at new s) (with_all (without at ls) cs s)
      was_kept k =
          holds_kept (row_at new s) (with_all (without at ls) cs s) (still s k)
          ((λ i. are i s) ∙ with_alike old (without (kept_at old) ls) (without at ls) cs (without_alike old (kept_at old) at ls (alike_holds at old held) first) second s k)

  pub holds_on_err : AreGone (sheets_of ls) new → AreGone (sheets_in cs) new → KeepsEntries old new → Holds at new
  holds_on_err left came entry s = elim (among_or_apart s (sheets_of ls)) [
    | inl m ↦ gone_entry (row_at new s) (at s) (left s m) (entry s (kept_entry (row_at old s) (among_kept old s (sheets_of ls) m first)))
    | inr a ↦ elim (among_or_apart s (sheets_in cs)) [
      | inl m ↦ gone_entry (row_at new s) (at s) (came s m) (entry s (kept_entry (row_at old s) (among_kept old s (sheets_in cs) m second)))
      | inr b ↦ subst (λ r. HoldsSheet r (at s)) (sym (others s a b)) (held s)
    ]
  ]

-- what is drawn on one sheet
module _ (p : ProjectData) (sheet : SheetName) where
  abbrev pub fresh : List Coming
  fresh = map come (drawn_in p (rows_on p sheet))

  -- it comes to that sheet
  pub fresh_there : (c : Coming) → In c fresh → c.0 ≡ sheet
  fresh_there c h =
      let m = mapped come c (drawn_in p (rows_on p sheet)) h in
      let f = flat (conductors_at p) m.of (rows_on p sheet) m.there in
      let on = filtered (is_on sheet) f.of (entries p.objects) f.there in
      sym (ap (λ (x : Coming). x.0) m.is) ∙ sheet_of p f.of m.of f.has ∙ (bytes_eq-Decides f.of.1.sheet sheet).0 on.1

  fresh_all : (c : SheetConductor) → In c (drawn_in p (rows_on p sheet)) → In c (sheet_conductors p)
  fresh_all c h =
      let f = flat (conductors_at p) c (rows_on p sheet) h in
      in_flat (conductors_at p) f.of c (entries p.objects) (filtered (is_on sheet) f.of (entries p.objects) f.there).0 f.has

  -- and is all that stands there
  all_fresh : (k : Key) (v : Conductor) → In (conductor sheet k v) (sheet_conductors p) → In (conductor sheet k v) (drawn_in p (rows_on p sheet))
  all_fresh k v h =
      let f = flat (conductors_at p) (conductor sheet k v) (entries p.objects) h in
      in_flat (conductors_at p) f.of (conductor sheet k v) (rows_on p sheet)
      (in_filter (is_on sheet) f.of (entries p.objects) f.there ((bytes_eq-Decides f.of.1.sheet sheet).1 (sym (sheet_of p f.of (conductor sheet k v) f.has)))) f.has

  pub fresh_keys : Distinct (map (λ (c : Coming). c.1.0) fresh)
  fresh_keys =
      coming_distinct (drawn_in p (rows_on p sheet))
      (keys_distinct p (rows_on p sheet) (distinct_filter (λ (row : ℕ × Placed). row.0) (is_on sheet) (entries p.objects) (ids_distinct p.objects)))

  -- nothing comes to a sheet without conductors
  pub fresh_none : on_sheet p sheet ≡ empty → fresh ≡ []
  fresh_none bare = by (drawn_in p (rows_on p sheet)) refl
    where
      by : (cs : List SheetConductor) → drawn_in p (rows_on p sheet) ≡ cs → fresh ≡ []
      by [] e = ap (map come) e
      by (c ∷ cs) e = absurd (
          let there : In c (drawn_in p (rows_on p sheet)) = subst (In c) (sym e) (inl refl) in
          let on : c.sheet ≡ sheet = fresh_there (come c) (in_map come c (drawn_in p (rows_on p sheet)) there) in
          let stands_ = stands (sheet_conductors p) (project_keys p) c (fresh_all c there) in
          none-some c.shape (sym (get-empty by_key c.key) ∙ ap (λ m. get m c.key) (sym bare) ∙ ap (λ s. get (on_sheet p s) c.key) (sym on) ∙ stands_))

  module _ (at : BySheet) (none : at sheet ≡ empty) where
    pub fresh_free : AreFree at fresh
    fresh_free = are_free at fresh (λ c h. ap (λ s. get (at s) c.1.0) (fresh_there c h) ∙ ap (λ m. get m c.1.0) none ∙ get-empty by_key c.1.0) fresh_keys

    -- when it has come, the sheet has the conductors of the project
    pub fresh_are : with_all at fresh sheet ≡ on_sheet p sheet
    fresh_are = same_conductors (with_all at fresh sheet) (on_sheet p sheet) to back
      where
        to : (k : Key) (v : Conductor) → get (with_all at fresh sheet) k ≡ Some v → get (on_sheet p sheet) k ≡ Some v
        to k v e = elim (with_cases at fresh fresh_free sheet k v e) [
          | inl before ↦ absurd (none-some v (sym (ap (λ m. get m k) none ∙ get-empty by_key k) ∙ before))
          | inr h ↦ stands (sheet_conductors p) (project_keys p) (conductor sheet k v) (fresh_all (conductor sheet k v) (came (drawn_in p (rows_on p sheet)) sheet k v h))
        ]

        back : (k : Key) (v : Conductor) → get (on_sheet p sheet) k ≡ Some v → get (with_all at fresh sheet) k ≡ Some v
        back k v e =
            with_has at fresh fresh_free sheet k v
            (in_map come (conductor sheet k v) (drawn_in p (rows_on p sheet)) (all_fresh k v (stood (sheet_conductors p) (project_keys p) sheet k v e)))

-- the sheets of what comes to one sheet
fresh_kept : (rows : Rows) (sheet : SheetName) (cs : List Coming) → ((c : Coming) → In c cs → c.0 ≡ sheet) → IsKept (row_at rows sheet) → AreKept rows (sheets_in cs)
fresh_kept rows sheet [] there k = tt
fresh_kept rows sheet (c ∷ cs) there k = (subst (λ s. IsKept (row_at rows s)) (sym (there c (inl refl))) k, fresh_kept rows sheet cs (λ d h. there d (inr h)) k)

fresh_apart : (sheet s : SheetName) (cs : List Coming) → ((c : Coming) → In c cs → c.0 ≡ sheet) → s ≢ sheet → IsApart s (sheets_in cs)
fresh_apart sheet s [] there n = tt
fresh_apart sheet s (c ∷ cs) there n = (λ e. n (e ∙ there c (inl refl)), fresh_apart sheet s cs (λ d h. there d (inr h)) n)

none_apart : (sheet : SheetName) (cs : List Coming) → ((c : Coming) → In c cs → c.0 ≡ sheet) → IsApart sheet (sheets_in cs) → cs ≡ []
none_apart sheet [] there a = refl
none_apart sheet (c ∷ cs) there a = absurd (a.0 (sym (there c (inl refl))))

-- a sheet whose groups were not kept is opened, and gets its conductors
module _ (p : ProjectData) (sheet : SheetName) (old opened new : Rows) (held : HoldsProject p old) (not_kept : IsKept (row_at old sheet) → ⊥)
    (kept : IsKept (row_at opened sheet)) (same : kept_at opened ≡ kept_at old) (first : KeepsOtherSheets sheet old opened) where
  none_there : kept_at opened sheet ≡ empty
  none_there = (λ i. same i sheet) ∙ bare (row_at old sheet) (on_sheet p sheet) (held sheet) not_kept

  pub renewing_kept : AreKept opened (sheets_in (fresh p sheet))
  renewing_kept = fresh_kept opened sheet (fresh p sheet) (fresh_there p sheet) kept

  pub renewing_free : AreFree (without (kept_at opened) []) (fresh p sheet)
  renewing_free = fresh_free p sheet (kept_at opened) none_there

  module _ (others : KeepsUntouched [] (fresh p sheet) opened new) where
    pub renewed_others : KeepsOtherSheets sheet old new
    renewed_others s n = others s tt (fresh_apart sheet s (fresh p sheet) (fresh_there p sheet) n) ∙ first s n

    pub renewed_still : KeepsGroups old new
    renewed_still s k = elim (same_or_apart s sheet) [
      | inl e ↦ absurd (not_kept (subst (λ x. IsKept (row_at old x)) e k))
      | inr n ↦ subst IsKept (sym (renewed_others s n)) k
    ]

    by_sheet_ : HoldsSheet (row_at new sheet) (on_sheet p sheet) → HoldsProject p new
    by_sheet_ here s = elim (same_or_apart s sheet) [
      | inl e ↦ subst (λ x. HoldsSheet (row_at new x) (on_sheet p x)) (sym e) here
      | inr n ↦ subst (λ r. HoldsSheet r (on_sheet p s)) (sym (renewed_others s n)) (held s)
    ]

    pub renewed_ok : KeepsGroups opened new → kept_at new ≡ with_all (without (kept_at opened) []) (fresh p sheet) → HoldsProject p new
    renewed_ok still are =
        by_sheet_ (holds_kept (row_at new sheet) (on_sheet p sheet) (still sheet kept) ((λ i. are i sheet) ∙ fresh_are p sheet (kept_at opened) none_there))

    pub renewed_err : AreGone (sheets_in (fresh p sheet)) new → KeepsEntries opened new → HoldsProject p new
    renewed_err gone entry = by_sheet_ (elim (among_or_apart sheet (sheets_in (fresh p sheet))) [
      | inl m ↦ gone_entry (row_at new sheet) (on_sheet p sheet) (gone sheet m) (entry sheet (kept_entry (row_at opened sheet) kept))
      | inr a ↦
          let row = others sheet tt a in
          let none : fresh p sheet ≡ [] = none_apart sheet (fresh p sheet) (fresh_there p sheet) a in
          let are : on_sheet p sheet ≡ kept_at opened sheet = sym (fresh_are p sheet (kept_at opened) none_there) ∙ ap (λ (cs : List Coming). with_all (kept_at opened) cs sheet) none in
          holds_kept (row_at new sheet) (on_sheet p sheet) (subst IsKept (sym row) kept) (ap conductors_of row ∙ sym are)
    ])

  -- a sheet without conductors costs no step
  pub renewing_free_steps : (steps after : ℕ) → ((sum : ℕ) → SizesSum (kept_at opened) [] sum → after ≤ steps + (sum + length (fresh p sheet))) → is_given_up (row_at old sheet) ≡ false → after ≤ steps
  renewing_free_steps steps after few not_gone =
      let none = ap length (fresh_none p sheet (bare_sheet (row_at old sheet) (on_sheet p sheet) (held sheet) not_kept not_gone)) in
      let bound = few 0 refl in
      omega arith
