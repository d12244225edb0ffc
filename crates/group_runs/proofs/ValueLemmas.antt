-- The groups that are kept are those of a project's conductors, whatever stands on the sheets whose
-- groups are given up.
use Rattle.std.proofs.Common.{◌≡◌, inl, inr, ℕ, None, IsSome, cond, List, [], ◌∷◌, ap, subst, ◌∙◌}
use Rattle.std.specs.FinMap.{get, insert, remove}
use Rattle.std.specs.Str.{bytes_eq}
use Rattle.net_flood.specs.Grouping.{Conductors, IsGroup}
use Rattle.group_runs.specs.Runs.{SheetName, AreFree, AreThere, BySheet, Coming, Leaving, SizesSum, less, more, sheets_in, sheets_of, with_all, with_sheet, without}
use Rattle.group_runs.specs.Sheets.{AreGone, AreKept, IsKept, IsSound, KeepsUntouched, Rows, conductors_of, kept_at, row_at}
use Rattle.group_runs.specs.steps.Running.{IsOf}
use Rattle.group_runs.proofs.GoneLemmas.{among_or_apart, apart_from_kept, both, sound_cases}

module _ (rows : Rows) where
  -- alike on the sheets whose groups are kept
  abbrev pub AreAlike : BySheet → BySheet → Type 0
  AreAlike f g = (s : SheetName) → IsKept (row_at rows s) → f s ≡ g s

  set_alike : (f g : BySheet) (sheet : SheetName) (cs ds : Conductors) → AreAlike f g → cs ≡ ds → AreAlike (with_sheet f sheet cs) (with_sheet g sheet ds)
  set_alike f g sheet cs ds alike e s k = λ i. cond (bytes_eq sheet s) (e i) (alike s k i)

  less_alike : (f g : BySheet) (l : Leaving) → AreAlike f g → IsKept (row_at rows l.0) → AreAlike (less f l) (less g l)
  less_alike f g l alike k = set_alike f g l.0 (remove (f l.0) l.1) (remove (g l.0) l.1) alike (ap (λ (cs : Conductors). remove cs l.1) (alike l.0 k))

  more_alike : (f g : BySheet) (c : Coming) → AreAlike f g → IsKept (row_at rows c.0) → AreAlike (more f c) (more g c)
  more_alike f g c alike k = set_alike f g c.0 (insert (f c.0) c.1.0 c.1.1) (insert (g c.0) c.1.0 c.1.1) alike (ap (λ (cs : Conductors). insert cs c.1.0 c.1.1) (alike c.0 k))

  pub without_alike : (f g : BySheet) (ls : List Leaving) → AreAlike f g → AreKept rows (sheets_of ls) → AreAlike (without f ls) (without g ls)
  without_alike f g [] alike k = alike
  without_alike f g (l ∷ ls) alike k = without_alike (less f l) (less g l) ls (less_alike f g l alike k.0) k.1

  pub with_alike : (f g : BySheet) (cs : List Coming) → AreAlike f g → AreKept rows (sheets_in cs) → AreAlike (with_all f cs) (with_all g cs)
  with_alike f g [] alike k = alike
  with_alike f g (c ∷ cs) alike k = with_alike (more f c) (more g c) cs (more_alike f g c alike k.0) k.1

  pub there_alike : (f g : BySheet) (ls : List Leaving) → AreAlike f g → AreKept rows (sheets_of ls) → AreThere f ls → AreThere g ls
  there_alike f g [] alike k h = tt
  there_alike f g (l ∷ ls) alike k h =
      (subst (λ (cs : Conductors). IsSome (get cs l.1)) (alike l.0 k.0) h.0, there_alike (less f l) (less g l) ls (less_alike f g l alike k.0) k.1 h.1)

  pub free_alike : (f g : BySheet) (cs : List Coming) → AreAlike f g → AreKept rows (sheets_in cs) → AreFree f cs → AreFree g cs
  free_alike f g [] alike k h = tt
  free_alike f g (c ∷ cs) alike k h =
      (subst (λ (ds : Conductors). get ds c.1.0 ≡ None) (alike c.0 k.0) h.0, free_alike (more f c) (more g c) cs (more_alike f g c alike k.0) k.1 h.1)

  -- so a bound of the project is one of the groups
  pub sizes_alike : (f g : BySheet) (ls : List Leaving) (sum : ℕ) → AreAlike f g → AreKept rows (sheets_of ls) → SizesSum f ls sum → SizesSum g ls sum
  sizes_alike f g [] sum alike k h = h
  sizes_alike f g (l ∷ ls) sum alike k h =
      (h.0, h.1, subst (λ (cs : Conductors). IsGroup cs l.1 h.0) (alike l.0 k.0) h.2, sizes_alike (less f l) (less g l) ls h.1 (less_alike f g l alike k.0) k.1 h.3, h.4)

module _ (old new : Rows) (at : BySheet) (leaving : List Leaving) (coming : List Coming) (of : IsOf at old) (others : KeepsUntouched leaving coming old new) where
  -- groups that are kept after a change that was put in are those of the conductors after it
  pub of_on_ok : ((s : SheetName) → IsSound (row_at old s)) → AreKept old (sheets_of leaving) → AreKept old (sheets_in coming)
      → kept_at new ≡ with_all (without (kept_at old) leaving) coming → IsOf (with_all (without at leaving) coming) new
  of_on_ok sound first second are s k = elim (sound_cases (row_at old s) (sound s)) [
    | inl was ↦ (λ i. are i s) ∙ with_alike old (without (kept_at old) leaving) (without at leaving) coming (without_alike old (kept_at old) at leaving of first) second s was
    | inr g ↦ absurd (both (row_at old s)
        (subst IsKept (others s (apart_from_kept old s g (sheets_of leaving) first) (apart_from_kept old s g (sheets_in coming) second)) k) g)
  ]

  -- groups that are kept after one that was not put in are those of the conductors before it
  pub of_on_err : AreGone (sheets_of leaving) new → AreGone (sheets_in coming) new → IsOf at new
  of_on_err first second s k = elim (among_or_apart s (sheets_of leaving)) [
    | inl m ↦ absurd (both (row_at new s) k (first s m))
    | inr a ↦ elim (among_or_apart s (sheets_in coming)) [
      | inl m ↦ absurd (both (row_at new s) k (second s m))
      | inr b ↦ ap conductors_of (others s a b) ∙ of s (subst IsKept (others s a b) k)
    ]
  ]
