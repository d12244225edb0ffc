-- One sheet gets another entry.
use Rattle.std.proofs.Common.{◌≡◌, ◌≢◌, ◌⊎◌, inl, inr, Bool, true, false, cond, Option, None, Some, refl, sym, ap, subst, ◌∙◌}
use Rattle.std.specs.FinMap.{empty}
use Rattle.std.specs.Str.{bytes_eq}
use Rattle.std.proofs.lemmas.Slice.Eq.{bytes_eq-Decides}
use Rattle.net_flood.specs.Grouping.{Conductors, GroupsData}
use Rattle.group_runs.specs.steps.Running.{SetsSheet}
use Rattle.group_runs.specs.Runs.{SheetName, with_sheet}
use Rattle.group_runs.specs.Sheets.{HasEntry, IsKept, KeepsEntries, KeepsOtherSheets, Rows, conductors_of, kept_at, row_at}

pub same_sheet : (a b : SheetName) → (bytes_eq a b) ≡ true → a ≡ b
same_sheet a b e = (bytes_eq-Decides a b).0 e

pub here : (a : SheetName) → (bytes_eq a a) ≡ true
here a = (bytes_eq-Decides a a).1 refl

pub apart : (a b : SheetName) → a ≢ b → (bytes_eq a b) ≡ false
apart a b n = go (bytes_eq a b) refl
  where
    go : (t : Bool) → (bytes_eq a b) ≡ t → (bytes_eq a b) ≡ false
    go true e = absurd (n (same_sheet a b e))
    go false e = e

pub same_or_apart : (a b : SheetName) → (a ≡ b) ⊎ (a ≢ b)
same_or_apart a b = go (bytes_eq a b) refl
  where
    go : (t : Bool) → (bytes_eq a b) ≡ t → (a ≡ b) ⊎ (a ≢ b)
    go true e = inl (same_sheet a b e)
    go false e = inr (λ s. let p : true ≡ false = sym ((bytes_eq-Decides a b).1 s) ∙ e in absurd (cc))

-- a new entry, by what a map says of a write
module _ (old new : Rows) (sheet : SheetName) (row : Option GroupsData) (sets : (q : SheetName) → row_at new q ≡ cond (bytes_eq sheet q) (Some row) (row_at old q)) where
  pub set_here : row_at new sheet ≡ Some row
  set_here = sets sheet ∙ ap (λ (b : Bool). cond b (Some row) (row_at old sheet)) (here sheet)

  pub set_apart : KeepsOtherSheets sheet old new
  set_apart s n = sets s ∙ ap (λ (b : Bool). cond b (Some row) (row_at old s)) (apart sheet s (λ e. n (sym e)))

-- the conductors of all sheets, where one has others
pub sheet_set : (old new : Rows) (sheet : SheetName) (cs : Conductors) → KeepsOtherSheets sheet old new → kept_at new sheet ≡ cs → kept_at new ≡ with_sheet (kept_at old) sheet cs
sheet_set old new sheet cs others are = λ i s. each s i
  where
    go : (s : SheetName) (t : Bool) → (bytes_eq sheet s) ≡ t → kept_at new s ≡ cond t cs (kept_at old s)
    go s true e = ap (kept_at new) (sym (same_sheet sheet s e)) ∙ are
    go s false e = ap conductors_of (others s (λ x. let p : true ≡ false = sym ((bytes_eq-Decides sheet s).1 (sym x)) ∙ e in absurd (cc)))

    each : (s : SheetName) → kept_at new s ≡ with_sheet (kept_at old) sheet cs s
    each s = go s (bytes_eq sheet s) refl

-- each sheet keeps its entry, where this one has one
pub entries_kept : (old new : Rows) (sheet : SheetName) → KeepsOtherSheets sheet old new → HasEntry (row_at new sheet) → KeepsEntries old new
entries_kept old new sheet others entry s h = elim (same_or_apart s sheet) [
  | inl e ↦ subst (λ t. HasEntry (row_at new t)) (sym e) entry
  | inr n ↦ subst HasEntry (sym (others s n)) h
]

-- groups without conductors, where none were kept, change the conductors of no sheet
pub opened_same : (old new : Rows) (sheet : SheetName) → KeepsOtherSheets sheet old new → kept_at new sheet ≡ kept_at old sheet → kept_at new ≡ kept_at old
opened_same old new sheet others are = λ i s. each s i
  where
    each : (s : SheetName) → kept_at new s ≡ kept_at old s
    each s = elim (same_or_apart s sheet) [
      | inl e ↦ ap (kept_at new) e ∙ are ∙ ap (kept_at old) (sym e)
      | inr n ↦ ap conductors_of (others s n)
    ]

-- groups without conductors are put where there was no entry
pub opens : (old new : Rows) (sheet : SheetName) (g : GroupsData) → ((q : SheetName) → row_at new q ≡ cond (bytes_eq sheet q) (Some (Some g)) (row_at old q)) → row_at old sheet ≡ None
    → g.fresh ≡ true → g.conductors ≡ empty → SetsSheet sheet (kept_at old sheet) new
opens old new sheet g sets none fresh is = record { kept = subst IsKept (sym now) fresh; are = ap conductors_of now ∙ is ∙ sym (ap conductors_of none) }
  where
    now : row_at new sheet ≡ Some (Some g)
    now = set_here old new sheet (Some g) sets
