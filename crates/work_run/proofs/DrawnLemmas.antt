-- What the work draws: one sheet, one symbol, and at most one object a step.
use Rattle.std.proofs.Common.{◌≡◌, ◌⊎◌, ◌≤◌, ◌+◌, ◌-◌, ◌%◌, ◌/◌, ◌==◌, nat_lt, ℕ, zero, suc, Bool, true, false, cond, List, [], ◌∷◌, length, map, Option, None, Some, option_map, inl, inr, refl, sym, ap, subst, ◌∙◌, arith}
use Rattle.std.specs.FinMap.{contains_key, empty, entries, get, get-empty, get-insert, get-remove, insert, keys, len, len-empty, len-entries, entries-insert, len-insert, len-remove, remove}
use Rattle.std.specs.FinMap.Entries.{put as put_row}
use Rattle.std.specs.Ordering.{eq_by_cmp, nat_cmp}
use Rattle.std.specs.Cmp.Lexicographic.{slice_cmp}
use Rattle.std.proofs.lemmas.Cmp.{nat_cmp_total, nat_list_cmp_total}
use Rattle.std.proofs.lemmas.Option.{none-some, same_Some}
use Rattle.project_model.specs.declared.change.Placed.{Placed}
use Rattle.project_model.specs.Projects.{ProjectData, empty_project}
use Rattle.geda_model.specs.Sheets.{HeadData, ObjectData}
use Rattle.project_model.specs.Changes.{put}
use Rattle.gaf_work.specs.Draws.{drawn}
use Rattle.gaf_work.specs.DrawnSteps.{coming, id_at, leaving, part, wire}
use Rattle.gaf_work.specs.Opening.{head, opening, sheet_name, symbol_name, two_pins}
use Rattle.work_run.specs.Runs.{IsRun, IsStep, PutsIn, RunData, Steps}

-- an object that a step brings
abbrev pub IsDrawnObject : ObjectData → Type 0
IsDrawnObject o = ((q : ℕ) × (o ≡ wire q)) ⊎ ((q : ℕ) × (id : ℕ) × (o ≡ part q id))

-- a project of the one sheet and the one symbol, with at most so many objects that steps bring
pub record IsDrawn (count : ℕ) (p : ProjectData) : Type 0 where
  pub sheets : keys p.sheets ≡ sheet_name ∷ []
  pub symbol : get p.symbols symbol_name ≡ Some two_pins
  pub drawn : (id : ℕ) (placed : Placed) → get p.objects id ≡ Some placed → IsDrawnObject placed.object
  pub few : len p.objects ≤ count

no_items : {A : Type 0} (xs : List A) → length xs ≡ 0 → xs ≡ []
no_items [] e = refl
no_items (x ∷ xs) e = absurd (omega (arith, e))

no_rows : entries (empty {X = HeadData} {R = slice_cmp nat_cmp}) ≡ []
no_rows = no_items _ (sym (len-entries (empty {X = HeadData} {R = slice_cmp nat_cmp})) ∙ len-empty (slice_cmp nat_cmp) HeadData)

-- the project that is opened is one
pub IsDrawn-opened : IsDrawn 0 (put empty_project opening)
IsDrawn-opened = record {
  sheets = ap (map (λ (row : List ℕ × HeadData). row.0))
      (entries-insert nat_list_cmp_total empty sheet_name head ∙ ap (put_row (slice_cmp nat_cmp) sheet_name head) no_rows);
  symbol = get-insert nat_list_cmp_total empty symbol_name two_pins symbol_name;
  drawn = λ id placed there. absurd (none-some placed (sym (get-empty nat_cmp id) ∙ there));
  few = omega (arith, len-empty nat_cmp Placed);
}

module _ (count : ℕ) (p : ProjectData) (h : IsDrawn count p) where
  -- an object comes
  IsDrawn-coming : (object : ObjectData) → IsDrawnObject object → IsDrawn (count + 1) (put p (coming p object))
  IsDrawn-coming object new = record {
    sheets = h.sheets;
    symbol = h.symbol;
    drawn = λ id placed there. by id placed (eq_by_cmp nat_cmp id p.next_id) (sym (get-insert nat_cmp_total p.objects p.next_id row id) ∙ there);
    few = more (contains_key p.objects p.next_id) (len-insert nat_cmp_total p.objects p.next_id row);
  }
    where
      row : Placed
      row = record { sheet = sheet_name; object = object }

      by : (id : ℕ) (placed : Placed) (b : Bool) → cond b (Some row) (get p.objects id) ≡ Some placed → IsDrawnObject placed.object
      by id placed true e = subst (λ (r : Placed). IsDrawnObject r.object) (same_Some row placed e) new
      by id placed false e = h.drawn id placed e

      more : (b : Bool) → len (insert p.objects p.next_id row) ≡ cond b (len p.objects) (len p.objects + 1) → len (insert p.objects p.next_id row) ≤ count + 1
      more true e = let few = h.few in omega (arith, e)
      more false e = let few = h.few in omega (arith, e)

  -- an object leaves
  IsDrawn-leaving : (id : ℕ) → IsDrawn (count + 1) (put p (leaving id))
  IsDrawn-leaving id = record {
    sheets = h.sheets;
    symbol = h.symbol;
    drawn = λ other placed there. by other placed (eq_by_cmp nat_cmp other id) (sym (get-remove nat_cmp_total p.objects id other) ∙ there);
    few = less (contains_key p.objects id) (len-remove nat_cmp_total p.objects id);
  }
    where
      by : (other : ℕ) (placed : Placed) (b : Bool) → cond b None (get p.objects other) ≡ Some placed → IsDrawnObject placed.object
      by other placed true e = absurd (none-some placed e)
      by other placed false e = h.drawn other placed e

      less : (b : Bool) → len (remove p.objects id) ≡ cond b (len p.objects - 1) (len p.objects) → len (remove p.objects id) ≤ count + 1
      less true e = let few = h.few in omega (arith, e)
      less false e = let few = h.few in omega (arith, e)

  -- nothing is changed
  IsDrawn-later : IsDrawn (count + 1) p
  IsDrawn-later = record { sheets = h.sheets; symbol = h.symbol; drawn = h.drawn; few = (let few = h.few in omega (arith, few)) }

-- a step keeps it
pub IsDrawn-step : (count : ℕ) (old new : RunData) → IsDrawn count old.project → IsStep old new → IsDrawn (count + 1) new.project
IsDrawn-step count old new h is = by (nat_lt (r % 8) 5) (r % 8 == 5) is.change
  where
    r : ℕ
    r = drawn old.state

    p : ProjectData
    p = old.project

    leaves : (found : Option ℕ) → PutsIn (option_map leaving found) old new → IsDrawn (count + 1) new.project
    leaves None puts = subst (IsDrawn (count + 1)) (sym puts.0) (IsDrawn-later count p h)
    leaves (Some id) puts = subst (IsDrawn (count + 1)) (sym puts.0) (IsDrawn-leaving count p h id)

    by : (wires parts : Bool)
        → PutsIn (cond wires (Some (coming p (wire (r / 8)))) (cond parts (Some (coming p (part (r / 8) p.next_id))) (option_map leaving (id_at (keys p.objects) (r / 8))))) old new
        → IsDrawn (count + 1) new.project
    by true parts puts = subst (IsDrawn (count + 1)) (sym puts.0) (IsDrawn-coming count p h (wire (r / 8)) (inl (r / 8, refl)))
    by false true puts = subst (IsDrawn (count + 1)) (sym puts.0) (IsDrawn-coming count p h (part (r / 8) p.next_id) (inr (r / 8, p.next_id, refl)))
    by false false puts = leaves (id_at (keys p.objects) (r / 8)) puts

-- so do many
IsDrawn-steps : (count : ℕ) (old new : RunData) → IsDrawn 0 old.project → Steps count old new → IsDrawn count new.project
IsDrawn-steps zero old new h same = subst (λ (run : RunData). IsDrawn 0 run.project) (sym same) h
IsDrawn-steps (suc n) old new h (before, steps, is) =
    let e : n + 1 ≡ suc n = omega arith in
    subst (λ (k : ℕ). IsDrawn k new.project) e (IsDrawn-step n before new (IsDrawn-steps n old before h steps) is)

-- what a run comes to
pub IsDrawn-run : (start count : ℕ) (run : RunData) → IsRun start count run → IsDrawn count run.project
IsDrawn-run start count run is = IsDrawn-steps count is.opened run (subst (IsDrawn 0) (sym is.is_opened.project) IsDrawn-opened) is.steps
