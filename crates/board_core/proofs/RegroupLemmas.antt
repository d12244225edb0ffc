-- The groups of a project through a change.
use Rattle.std.proofs.Common.{◌≡◌, ◌≢◌, ◌≤◌, ◌+◌, inl, inr, ℕ, List, [], ◌∷◌, ◌++◌, length, map, refl, sym, ap, subst, ◌∙◌, arith}
use Rattle.std.specs.FinMap.{entries}
use Rattle.std.proofs.lemmas.List.{length-map}
use Rattle.project_model.specs.declared.change.Placed.{Placed}
use Rattle.project_model.specs.Items.{Item}
use Rattle.project_model.specs.Projects.{ProjectData}
use Rattle.project_model.specs.Changes.{AreDistinct, put}
use Rattle.group_runs.specs.Runs.{AreFree, AreThere, Coming, IsRunBound, Leaving, SheetName, SizesSum, sheets_in, sheets_of, with_all, without}
use Rattle.group_runs.specs.Sheets.{AreGone, AreKept, IsApart, IsKept, KeepsEntries, KeepsGroups, KeepsUntouched, Rows, kept_at, row_at}
use Rattle.group_runs.proofs.ValueLemmas.{AreAlike, free_alike, sizes_alike, there_alike, without_alike}
use Rattle.sheet_groups.specs.Conductors.{conductors_at}
use Rattle.board_core.specs.Bounds.{IsBound}
use Rattle.board_core.specs.Changed.{is_changed}
use Rattle.board_core.specs.steps.Members.{In}
use Rattle.board_core.specs.steps.Standing.{changed_rows, come, coming_drawn, coming_rows, leave, leaving_drawn, on_sheet}
use Rattle.board_core.specs.steps.Kept.{AreRenewed, HoldsSheet, IsPartly, IsRegrouped, Renews, StaysWithin, sheets_at, sheets_named, touched_sheets}
use Rattle.board_core.proofs.MemberLemmas.{flat, in_filter, in_left, in_map, in_right, mapped}
use Rattle.board_core.proofs.DrawnLemmas.{sheet_of}
use Rattle.board_core.proofs.ChangeLemmas.{coming_counted, coming_free, leaving_there, left_of, on_sheet-put}
use Rattle.board_core.proofs.BoundLemmas.{sizes_in_classes}
use Rattle.board_core.proofs.HoldLemmas.{alike_holds, holds_on_err, holds_on_ok}

-- an object's sheet is among those of the objects
pub in_sheets : (row : ℕ × Placed) (rows : List (ℕ × Placed)) → In row rows → In row.1.sheet (sheets_at rows)
in_sheets row rows h = in_map (λ (r : ℕ × Placed). r.1.sheet) row rows h

module _ (p : ProjectData) (items : List Item) where
  abbrev pub ls : List Leaving
  ls = map leave (leaving_drawn p items)

  abbrev pub cs : List Coming
  cs = map come (coming_drawn p items)

  -- conductors leave touched sheets, and come to touched ones
  pub left_touched : (l : Leaving) → In l ls → In l.0 (touched_sheets p items)
  left_touched l h =
      let x = left_of p items l h in
      let row = in_filter (is_changed items) x.0 (entries p.objects) x.2 x.3 in
      let sheet : x.0.1.sheet ≡ l.0 = sym (sheet_of p x.0 x.1 x.4) ∙ ap (λ (m : Leaving). m.0) x.5 in
      in_left l.0 (sheets_at (changed_rows p items)) (sheets_at (coming_rows p items) ++ sheets_named items)
      (subst (λ s. In s (sheets_at (changed_rows p items))) sheet (in_sheets x.0 (changed_rows p items) row))

  pub come_touched : (c : Coming) → In c cs → In c.0 (touched_sheets p items)
  come_touched c h =
      let m = mapped come c (coming_drawn p items) h in
      let f = flat (conductors_at (put p items)) m.of (coming_rows p items) m.there in
      let sheet : f.of.1.sheet ≡ c.0 = sym (sheet_of (put p items) f.of m.of f.has) ∙ ap (λ (x : Coming). x.0) m.is in
      in_right c.0 (sheets_at (changed_rows p items)) (sheets_at (coming_rows p items) ++ sheets_named items)
      (in_left c.0 (sheets_at (coming_rows p items)) (sheets_named items)
      (subst (λ s. In s (sheets_at (coming_rows p items))) sheet (in_sheets f.of (coming_rows p items) f.there)))

  kept_of_left : (rows : Rows) (some : List Leaving) → ((l : Leaving) → In l some → IsKept (row_at rows l.0)) → AreKept rows (sheets_of some)
  kept_of_left rows [] k = tt
  kept_of_left rows (l ∷ some) k = (k l (inl refl), kept_of_left rows some (λ m h. k m (inr h)))

  kept_of_come : (rows : Rows) (some : List Coming) → ((c : Coming) → In c some → IsKept (row_at rows c.0)) → AreKept rows (sheets_in some)
  kept_of_come rows [] k = tt
  kept_of_come rows (c ∷ some) k = (k c (inl refl), kept_of_come rows some (λ d h. k d (inr h)))

  apart_of_left : (s : SheetName) (some : List Leaving) → ((l : Leaving) → In l some → l.0 ≢ s) → IsApart s (sheets_of some)
  apart_of_left s [] n = tt
  apart_of_left s (l ∷ some) n = (λ e. n l (inl refl) (sym e), apart_of_left s some (λ m h. n m (inr h)))

  apart_of_come : (s : SheetName) (some : List Coming) → ((c : Coming) → In c some → c.0 ≢ s) → IsApart s (sheets_in some)
  apart_of_come s [] n = tt
  apart_of_come s (c ∷ some) n = (λ e. n c (inl refl) (sym e), apart_of_come s some (λ d h. n d (inr h)))

  -- the sheets that a change touches are kept
  module _ (old mid : Rows) (a b : ℕ) (renews : Renews p old mid a b (touched_sheets p items)) (renewed : AreRenewed old mid (touched_sheets p items)) where
    pub left_kept : AreKept mid (sheets_of ls)
    left_kept = kept_of_left mid ls (λ l h. renewed.kept l.0 (left_touched l h))

    pub come_kept : AreKept mid (sheets_in cs)
    come_kept = kept_of_come mid cs (λ c h. renewed.kept c.0 (come_touched c h))

    alike : AreAlike mid (on_sheet p) (kept_at mid)
    alike s k = sym (alike_holds (on_sheet p) mid renews.held s k)

    pub all_there : AreThere (kept_at mid) ls
    all_there = there_alike mid (on_sheet p) (kept_at mid) ls alike left_kept (leaving_there p items)

    -- the steps of the change
    pub within : (c : ℕ) → ((sum : ℕ) → SizesSum (kept_at mid) ls sum → c ≤ b + (sum + length cs)) → StaysWithin p items old a c
    within c few none sum sizes =
        let bound = few sum (sizes_alike mid (on_sheet p) (kept_at mid) ls sum alike left_kept sizes) in
        let free = renews.free none in
        let long = length-map (coming_drawn p items) come in
        omega (arith, bound, free, long)

    -- what the run may cost is the bound of the change
    pub bounded : (bound : ℕ) → IsRunBound (kept_at mid) ls (length cs) bound → IsBound p items bound
    bounded bound is =
        let sizes = sizes_alike mid (kept_at mid) (on_sheet p) ls is.sum (alike_holds (on_sheet p) mid renews.held) left_kept is.sizes in
        let long = length-map (coming_drawn p items) come in
        let counted = coming_counted p items in
        let total = is.total in
        record { sizes = is.sum; left = sizes_in_classes p items is.sum sizes; total = omega (arith, long, counted, total) }

    module _ (new : Rows) (others : KeepsUntouched ls cs mid new) where
      apart : (s : SheetName) → (In s (touched_sheets p items) → ⊥) → row_at new s ≡ row_at old s
      apart s n =
          others s (apart_of_left s ls (λ l h e. n (subst (λ x. In x (touched_sheets p items)) e (left_touched l h))))
          (apart_of_come s cs (λ c h e. n (subst (λ x. In x (touched_sheets p items)) e (come_touched c h))))
          ∙ renews.others s n

      pub moved_err : AreGone (sheets_of ls) new → AreGone (sheets_in cs) new → KeepsEntries mid new → IsPartly p items old new
      moved_err left came entries_ = record {
        held = holds_on_err (on_sheet p) mid new ls cs renews.held left_kept come_kept others left came entries_;
        others = apart;
      }

      pub moved_ok : AreDistinct items → KeepsGroups mid new → kept_at new ≡ with_all (without (kept_at mid) ls) cs → IsRegrouped p items old new
      moved_ok once still are = record {
        held = λ s. subst (HoldsSheet (row_at new s)) (sym (on_sheet-put p items once s)) (holds_on_ok (on_sheet p) mid new ls cs renews.held left_kept come_kept others still are s);
        kept = λ s h. still s (renewed.kept s h);
        others = apart;
      }

    pub all_free : AreDistinct items → AreFree (without (kept_at mid) ls) cs
    all_free once =
        free_alike mid (without (on_sheet p) ls) (without (kept_at mid) ls) cs (without_alike mid (on_sheet p) (kept_at mid) ls alike left_kept) come_kept (coming_free p items once)
