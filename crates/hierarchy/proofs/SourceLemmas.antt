-- The table of a project: each id stands once on its sheet, and no two sources of a component name one sheet.
use Rattle.std.proofs.Common.{◌≡◌, ◌≢◌, ◌<◌, ◌||◌, ℕ, zero, suc, Bool, true, false, List, [], ◌∷◌, length, get_or, map, Option, None, Some, refl, sym, ap, subst, ◌∙◌, arith}
use Rattle.std.specs.Prelude.{AllPairs, codes, filter}
use Rattle.std.specs.List.{fold, list_any}
use Rattle.std.specs.List.Sorted.{IsStrictlySortedBy}
use Rattle.std.specs.Ordering.{nat_cmp}
use Rattle.std.specs.Str.{bytes_eq}
use Rattle.std.specs.FinMap.{entries, entries_sorted, keys}
use Rattle.std.proofs.lemmas.Bool.{false≢true}
use Rattle.std.proofs.lemmas.List.{get_or-map, length-map}
use Rattle.std.proofs.lemmas.List.Kept.{AllPairs-filter}
use Rattle.std.proofs.lemmas.List.Quantifiers.{all_pairs_push, position-Some}
use Rattle.std.proofs.lemmas.Map.Keys.{below_from_sorted}
use Rattle.geda_defs.proofs.Bytes.{bytes_true, bytes_same}
use Rattle.geda_defs.specs.Lists.{each_once, with_new}
use Rattle.project_model.specs.declared.change.Placed.{Placed}
use Rattle.project_model.specs.Projects.{ProjectData, is_on}
use Rattle.project_model.proofs.OrderedRows.{keys_sorted}
use Rattle.attr_rules.specs.Attributes.{attrs}
use Rattle.attr_rules.specs.Libraries.{library_of}
use Rattle.hierarchy.specs.SheetTable.{HierarchicalData, hierarchical, no_sheet, place_of, sheet_of, sheet_table, source_of, source_values}
use Rattle.hierarchy.proofs.ListLemmas.{all_none, all_filter_map}
use Rattle.hierarchy.proofs.TableLemmas.{made_by}
use Rattle.hierarchy.proofs.OnceLemmas.{AllStandOnce, NameApart, StandOnce, pairs_filter_map, pairs_map, pairs_none, pairs_weaker}

or_true : (b : Bool) → (b || true) ≡ true
or_true true = refl
or_true false = refl

-- a text among some is found
among : (v : List ℕ) (texts : List (List ℕ)) (k : ℕ) (d : List ℕ) → k < length texts → get_or texts k d ≡ v → list_any (bytes_eq v) texts ≡ true
among v [] k d h e = absurd (omega arith)
among v (t ∷ ts) zero d h e = rw (bytes_true v t (sym e)) refl
among v (t ∷ ts) (suc k) d h e = rw (among v ts k d (omega arith) e) (or_true (bytes_eq v t))

new_apart : (texts : List (List ℕ)) (v : List ℕ) → AllPairs ◌≢◌ texts → AllPairs ◌≢◌ (with_new texts v)
new_apart texts v pairs = by (list_any (bytes_eq v) texts) refl
  where
    by : (b : Bool) → list_any (bytes_eq v) texts ≡ b → AllPairs ◌≢◌ (with_new texts v)
    by true on = rw on pairs
    by false off = rw off (all_pairs_push ◌≢◌ texts v pairs (λ k d h e. absurd (false≢true (sym off ∙ among v texts k d h e))))

folded_apart : (values texts : List (List ℕ)) → AllPairs ◌≢◌ texts → AllPairs ◌≢◌ (fold with_new texts values)
folded_apart [] texts pairs = pairs
folded_apart (v ∷ vs) texts pairs = folded_apart vs (with_new texts v) (new_apart texts v pairs)

each_once_apart : (values : List (List ℕ)) → AllPairs ◌≢◌ (each_once values)
each_once_apart values = folded_apart values [] (pairs_none ◌≢◌)

-- two values name two sheets
places_apart : (names : List (List ℕ)) (u v : List ℕ) → u ≢ v → NameApart (place_of names u) (place_of names v)
places_apart names u v apart = by (place_of names u) (place_of names v) refl refl
  where
    by : (a b : Option ℕ) → place_of names u ≡ a → place_of names v ≡ b → NameApart a b
    by None b e f = tt
    by (Some i) None e f = tt
    by (Some i) (Some j) e f = λ same.
        let first = bytes_same u (get_or names i []) (position-Some (bytes_eq u) names i [] e).1 in
        let second = bytes_same v (get_or names j []) (position-Some (bytes_eq v) names j [] f).1 in
        apart (first ∙ ap (λ (k : ℕ). get_or names k []) same ∙ sym second)

sources_apart : (names values : List (List ℕ)) → AllPairs ◌≢◌ values → AllPairs (λ s t. NameApart s.sheet t.sheet) (map (source_of names) values)
sources_apart names values pairs =
    pairs_map (λ s t. NameApart s.sheet t.sheet) (source_of names) values
    (pairs_weaker ◌≢◌ (λ u v. NameApart (place_of names u) (place_of names v)) (places_apart names) values pairs)

-- the rows of a map have two keys
pub rows_apart : (p : ProjectData) → AllPairs (λ (r s : ℕ × Placed). r.0 ≢ s.0) (entries p.objects)
rows_apart p i j d lt h same =
    let es = entries p.objects in
    let key : ℕ × Placed → ℕ = λ r. r.0 in
    let rising : IsStrictlySortedBy nat_cmp (map key es) = keys_sorted nat_cmp es (entries_sorted p.objects) in
    let len : length (map key es) ≡ length es = length-map es key in
    let below = below_from_sorted (map key es) i j (key d) rising lt (omega arith) in
    let first = get_or-map key es i d (key d) (omega arith) in
    let second = get_or-map key es j d (key d) h in
    absurd (omega arith)

module _ (p : ProjectData) (rows : List (ℕ × Placed)) (apart : AllPairs (λ (r s : ℕ × Placed). r.0 ≢ s.0) rows) where
  once_on : (name : List ℕ) → StandOnce (sheet_of p rows name)
  once_on name =
      let mine = filter (is_on name) rows in
      let made : ℕ × Placed → Option HierarchicalData = λ r. hierarchical p r.0 r.1.object in
      record {
        ids = pairs_filter_map (λ (r s : ℕ × Placed). r.0 ≢ s.0) (λ (c d : HierarchicalData). c.id ≢ d.id) made
            (λ r s c d ne e f same. ne (ap (λ (c : HierarchicalData). c.id) (made_by p r.0 r.1.object c e) ∙ same ∙ sym (ap (λ (c : HierarchicalData). c.id) (made_by p s.0 s.1.object d f))))
            mine (AllPairs-filter (λ (r s : ℕ × Placed). r.0 ≢ s.0) (is_on name) rows apart);
        sources = all_filter_map (λ _. Unit {0}) (λ (c : HierarchicalData). AllPairs (λ s t. NameApart s.sheet t.sheet) c.sources) made
            (λ r c _ e. subst (λ (c : HierarchicalData). AllPairs (λ s t. NameApart s.sheet t.sheet) c.sources) (made_by p r.0 r.1.object c e)
            (sources_apart (keys p.sheets) (source_values r.1.object (library_of p r.1.object)) (each_once_apart (attrs r.1.object (library_of p r.1.object) (codes "source")))))
            mine (λ k d h. tt);
      }

  once_at : (names : List (List ℕ)) (place : ℕ) → StandOnce (get_or (map (sheet_of p rows) names) place no_sheet)
  once_at [] place = record { ids = pairs_none (λ c d. c.id ≢ d.id); sources = all_none (λ c. AllPairs (λ s t. NameApart s.sheet t.sheet) c.sources) }
  once_at (name ∷ names) zero = once_on name
  once_at (name ∷ names) (suc place) = once_at names place

-- so it is on all sheets of a project
pub table_once : (p : ProjectData) → AllStandOnce (sheet_table p)
table_once p place = once_at p (entries p.objects) (rows_apart p) (keys p.sheets) place
