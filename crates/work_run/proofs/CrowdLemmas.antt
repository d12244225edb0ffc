-- What the work draws has one instance, and weighs little.
use Rattle.std.proofs.Common.{◌≡◌, ◌≤◌, ◌*◌, ℕ, zero, suc, Bool, true, false, ◌&&◌, not, cond, List, [], ◌∷◌, ◌++◌, map, length, Option, None, Some, inl, inr, refl, ap, subst, ◌∙◌, arith, codes}
use Rattle.std.specs.Prelude.{filter, filter_map, sum_by, is_some, nat_lt}
use Rattle.std.specs.Fmt.{decimal}
use Rattle.std.specs.FinMap.{entries, entries_sorted, get-entries, len-entries}
use Rattle.std.specs.List.{after_first, before_first, position_or_len, slice_get}
use Rattle.std.specs.Map.{keys_of}
use Rattle.std.specs.Ordering.{eq_by_cmp, nat_cmp}
use Rattle.std.specs.Str.{bytes_eq, chars}
use Rattle.std.proofs.lemmas.Cmp.{eq_by_cmp_equiv, nat_cmp_total}
use Rattle.std.proofs.lemmas.List.Sums.{sum_by-cons}
use Rattle.std.proofs.lemmas.Map.Entries.{lookup_from_place}
use Rattle.std.proofs.lemmas.Map.Keys.{IsDistinct-from_sorted}
use Rattle.std.proofs.lemmas.Map.Lookups.{exact_unsigned}
use lib.Utf8.{encode}
use Rattle.project_model.specs.declared.change.Placed.{Placed}
use Rattle.project_model.specs.Projects.{ProjectData, is_on}
use Rattle.geda_model.specs.Sheets.{ObjectData}
use Rattle.project_model.proofs.OrderedRows.{keys_sorted}
use Rattle.project_model.proofs.Rows.{IsKey, find_row}
use Rattle.attr_rules.specs.Splits.{ends_well, is_equals, split_of, starts_well}
use Rattle.attr_rules.specs.Attributes.{attr, attrs, free_text, or_else, value_if, values_named}
use Rattle.attr_rules.specs.Components.{has_sources, is_annotation}
use Rattle.attr_rules.specs.Libraries.{library_of}
use Rattle.hierarchy.specs.SheetTable.{TableSheetData, hierarchical, object_weight, sheet_of, sheet_table}
use Rattle.hierarchy.specs.Ways.{way_at, ways}
use Rattle.hierarchy.specs.Crowded.{AreTooMany, HasTooMany, weight_of}
use Rattle.hierarchy.specs.Instances.{IsCrowded}
use Rattle.gaf_work.specs.DrawnSteps.{part}
use Rattle.gaf_work.specs.Opening.{sheet_name, two_pins}
use Rattle.work_run.specs.Runs.{IsRun, RunData}
use Rattle.work_run.proofs.DrawnLemmas.{IsDrawn, IsDrawnObject, IsDrawn-run}

-- a table of one sheet without sheets below
abbrev lone : List ℕ → ℕ → List TableSheetData
lone name weight = record { name = name; components = []; weight = weight } ∷ []

one_way : (name : List ℕ) (weight : ℕ) → ways (lone name weight) ≡ way_at 0 ∷ []
one_way name weight = refl

not_too_many : (name : List ℕ) (weight : ℕ) → weight ≤ 4000000 → AreTooMany (lone name weight) (way_at 0 ∷ []) → ⊥
not_too_many name weight light (inl many) = absurd (omega (arith, many))
not_too_many name weight light (inr (inl (zero, w, within, same, deep))) =
    absurd (let e : way_at 0 ≡ w = same in let steps = ap (λ w. length w.steps) e in omega (arith, steps, deep))
not_too_many name weight light (inr (inl (suc k, w, within, same, deep))) = absurd (omega (arith, within))
not_too_many name weight light (inr (inr heavy)) = absurd (let sum = sum_by-cons (weight_of (lone name weight)) (way_at 0) [] in omega (arith, sum, heavy))

-- such a table is not crowded
lone_is_free : (name : List ℕ) (weight : ℕ) → weight ≤ 4000000 → HasTooMany (lone name weight) → ⊥
lone_is_free name weight light many = not_too_many name weight light (subst (AreTooMany (lone name weight)) (one_way name weight) many)

-- an attribute of another name
other_name : (text expected : List ℕ) → bytes_eq (before_first is_equals text) expected ≡ false → value_if expected (split_of text) ≡ None
unfolding split_of
other_name text expected apart =
    by (nat_lt (position_or_len is_equals text) (length text) && (ends_well (before_first is_equals text) && starts_well (after_first is_equals text)))
  where
    by : (b : Bool) → value_if expected (cond b (Some (before_first is_equals text, after_first is_equals text)) None) ≡ None
    by false = refl
    by true = rw apart refl

abbrev source : List ℕ
source = codes "source"

refdes_is_no_source : (q id : ℕ) → values_named source (part q id).attrs ≡ []
unfolding chars encode
refdes_is_no_source q id = rw (other_name (codes "refdes=W" ++ decimal id) source refl) refl

symbol_has_no_source : values_named source (filter_map free_text two_pins.parts) ≡ []
unfolding split_of chars encode
symbol_has_no_source = refl

no_source : (q id : ℕ) → attr (part q id) (Some two_pins) source ≡ None
unfolding attr attrs
no_source q id = λ i. slice_get (or_else (refdes_is_no_source q id i) (symbol_has_no_source i)) 0

-- a part has no sheets below
part_has_no_sources : (q id : ℕ) → has_sources (part q id) (Some two_pins) ≡ false
part_has_no_sources q id =
    ap (λ (found : Option (List ℕ)). is_some found && not (is_annotation (part q id) (Some two_pins))) (no_source q id)

-- the symbol of a part
library_of_part : (count : ℕ) (p : ProjectData) (q id : ℕ) → IsDrawn count p → library_of p (part q id) ≡ Some two_pins
library_of_part count p q id h = h.symbol

module _ (count : ℕ) (p : ProjectData) (h : IsDrawn count p) where
  no_sources : (o : ObjectData) → IsDrawnObject o → has_sources o (library_of p o) ≡ false
  no_sources o (inl (q, is)) = rw is refl
  no_sources o (inr (q, id, is)) = rw (is, library_of_part count p q id h) (part_has_no_sources q id)

  light : (o : ObjectData) → IsDrawnObject o → object_weight p o ≤ 4
  light o (inl (q, is)) = rw is (omega arith)
  light o (inr (q, id, is)) = rw (is, library_of_part count p q id h) (omega arith)

  abbrev AreDrawn : List (ℕ × Placed) → Type 0
  AreDrawn rows = (i : ℕ) (row : ℕ × Placed) → slice_get rows i ≡ Some row → IsDrawnObject row.1.object

  -- nothing on the sheet has sheets below
  no_components : (rows : List (ℕ × Placed)) → AreDrawn rows → filter_map (λ row. hierarchical p row.0 row.1.object) (filter (is_on sheet_name) rows) ≡ []
  no_components [] drawn = refl
  no_components (row ∷ rows) drawn = by (no_components rows (λ i other at. drawn (suc i) other at)) (is_on sheet_name row)
    where
      by : filter_map (λ row. hierarchical p row.0 row.1.object) (filter (is_on sheet_name) rows) ≡ []
          → (b : Bool) → filter_map (λ row. hierarchical p row.0 row.1.object) (cond b (row ∷ filter (is_on sheet_name) rows) (filter (is_on sheet_name) rows)) ≡ []
      by rest false = rest
      by rest true = rw (no_sources row.1.object (drawn zero row refl)) rest

  -- and each object weighs little
  light_rows : (rows : List (ℕ × Placed)) → AreDrawn rows → sum_by (λ row. object_weight p row.1.object) (filter (is_on sheet_name) rows) ≤ 4 * length rows
  light_rows [] drawn = omega arith
  light_rows (row ∷ rows) drawn = by (light_rows rows (λ i other at. drawn (suc i) other at)) (is_on sheet_name row)
    where
      by : sum_by (λ row. object_weight p row.1.object) (filter (is_on sheet_name) rows) ≤ 4 * length rows
          → (b : Bool) → sum_by (λ row. object_weight p row.1.object) (cond b (row ∷ filter (is_on sheet_name) rows) (filter (is_on sheet_name) rows)) ≤ 4 * suc (length rows)
      by rest false = omega (arith, rest)
      by rest true =
          let here = light row.1.object (drawn zero row refl) in
          let sum = sum_by-cons (λ (row : ℕ × Placed). object_weight p row.1.object) row (filter (is_on sheet_name) rows) in
          omega (arith, rest, here, sum)

  found : AreDrawn (entries p.objects)
  found i row at = h.drawn row.0 row.1 (
      get-entries p.objects row.0 ∙ find_row id_laws (entries p.objects) row.0
      ∙ lookup_from_place (eq_by_cmp_equiv nat_cmp_total) (entries p.objects) i row.0 row.1
      (IsDistinct-from_sorted nat_cmp (keys_of (entries p.objects)) (keys_sorted nat_cmp (entries p.objects) (entries_sorted p.objects))) at)
    where
      id_laws : IsKey nat_cmp (eq_by_cmp nat_cmp)
      id_laws = record { total = nat_cmp_total; exact = exact_unsigned; agree = λ x y. refl }

  table : (weight : ℕ) × (weight ≤ 4 * count) × (sheet_table p ≡ lone sheet_name weight)
  table =
      let rows = entries p.objects in
      let weight = sum_by (λ (row : ℕ × Placed). object_weight p row.1.object) (filter (is_on sheet_name) rows) in
      let long = len-entries p.objects in
      let few = h.few in (
        weight,
        omega (arith, light_rows rows found, long, few),
        ap (map (sheet_of p rows)) h.sheets ∙ ap (λ cs. record { name = sheet_name; components = cs; weight = weight } ∷ []) (no_components rows found),
      )

  -- what is drawn is not crowded
  pub drawn_is_free : count ≤ 100000 → IsCrowded p → ⊥
  drawn_is_free few crowded =
      let t = table in
      lone_is_free sheet_name t.0 (omega (arith, t.1)) (subst HasTooMany t.2 crowded)

-- a run is not crowded
pub run_is_free : (start count : ℕ) (run : RunData) → count ≤ 100000 → IsRun start count run → IsCrowded run.project → ⊥
run_is_free start count run few is = drawn_is_free count run.project (IsDrawn-run start count run is) few
