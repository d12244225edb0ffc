-- The ids of a project that is opened, and the texts of its symbols.
use Rattle.std.proofs.Common.{◌≡◌, ◌≢◌, ℕ, suc, ◌+◌, ◌<◌, ◌≤◌, ◌^◌, Bool, true, false, cond, List, [], ◌∷◌, map, length, get_or, All, Option, None, Some, Ok, Err, IsSome, refl, sym, ap, subst, ◌∙◌, arith}
use Rattle.std.specs.List.{AllPairs, filter_map, sum_by}
use Rattle.std.specs.declared.cmp.Ordering.{Ordering}
use Rattle.std.specs.declared.cmp.Ordering.TheVariants.{Less, Equal, Greater}
use Rattle.std.specs.Ordering.{is_eq, nat_cmp, eq_by_cmp}
use Rattle.std.specs.Cmp.Lexicographic.{slice_cmp}
use Rattle.std.specs.FinMap.{FinMap, get, get-remove, insert, values, entries, entries-insert, get-entries, get-empty, get-insert, len-empty, len-entries}
use Rattle.std.specs.FinMap.Entries.{by_order, find, put as put_row}
use Rattle.std.proofs.lemmas.Bool.{ltb-false}
use Rattle.std.proofs.lemmas.List.Elements.{All-tail}
use Rattle.std.proofs.lemmas.List.Sums.{sum_by-cons}
use Rattle.geda_model.specs.Sheets.{ObjectData, SheetData, SymbolData}
use Rattle.project_model.specs.declared.change.Placed.{Placed}
use Rattle.project_model.specs.declared.change.Thing.{Thing}
use Rattle.project_model.specs.declared.change.Thing.TheVariants as things
use Rattle.project_model.specs.declared.change.Value.{Value}
use Rattle.project_model.specs.declared.change.Value.TheVariants as contents
use Rattle.project_model.specs.Items.{Item}
use Rattle.project_model.specs.Tables.{set_row}
use Rattle.project_model.specs.Projects.{ProjectData, empty_project}
use Rattle.project_model.specs.Changes.{IsIdInRange, ThingsAreInRange, as_placed, put, put_one}
use Rattle.project_model.proofs.ChangeLemmas.{put-append}
use Rattle.project_model.proofs.Rows.{ids, key_same, names}
use Rattle.project_files.specs.declared.fault.FileFault.TheVariants as faults
use Rattle.project_files.specs.Gathering.{AskedSymbol, Gathered}
use Rattle.project_files.specs.Measures.{LeavesIds, symbols_text, text_bytes}
use Rattle.project_files.specs.Opening.{all_objects, found_symbol, has_too_many_objects, is_over_full, found_library, most_project_objects, object_items, gathered_project, gathered_items, sheet_items, sheets_items, symbol_items}
use Rattle.project_files.specs.steps.Counting.{asked_bytes}
use Rattle.project_files.specs.steps.Standing.{IsWhole}
use Rattle.project_files.proofs.OpeningLemmas.{opening_in_range}

-- a row that is put in or taken out
row_in_range : (m : FinMap nat_cmp Placed) (id : ℕ) (row : Option Placed) → ((q : ℕ) → IsSome (get m q) → q + 1 < 2 ^ 32) → id + 1 < 2 ^ 32
    → (q : ℕ) → IsSome (get (set_row m id row) q) → q + 1 < 2 ^ 32
row_in_range m id None before fits q some = go (eq_by_cmp nat_cmp q id) (subst IsSome (get-remove ids.total m id q) some)
  where
    go : (b : Bool) → IsSome (cond b None (get m q)) → q + 1 < 2 ^ 32
    go true h = absurd cc
    go false h = before q h
row_in_range m id (Some row) before fits q some = go (eq_by_cmp nat_cmp q id) refl (subst IsSome (get-insert ids.total m id row q) some)
  where
    go : (b : Bool) → eq_by_cmp nat_cmp q id ≡ b → IsSome (cond b (Some row) (get m q)) → q + 1 < 2 ^ 32
    go true e h = subst (λ (n : ℕ). n + 1 < 2 ^ 32) (sym (key_same ids q id (ids.agree q id ∙ e))) fits
    go false e h = before q h

leaves_one : (p : ProjectData) (t : Thing) (v : Option Value) → LeavesIds p → IsIdInRange t → LeavesIds (put_one p t v)
leaves_one p (things.Object id) v before fits = row_in_range p.objects id (as_placed v) before fits
leaves_one p (things.SheetName name) v before fits = before
leaves_one p (things.SymbolName name) v before fits = before

leaves_put : (p : ProjectData) (items : List Item) → LeavesIds p → ThingsAreInRange items → LeavesIds (put p items)
leaves_put p [] before fits = before
leaves_put p (item ∷ items) before fits =
    leaves_put (put_one p item.0 item.1) items (leaves_one p item.0 item.1 before (fits 0 item (omega arith))) (All-tail (λ (item : Item). IsIdInRange item.0) item items fits)

abbrev vals : List (List ℕ × SymbolData) → List SymbolData
vals rows = map (λ (row : List ℕ × SymbolData). row.1) rows

-- a sum over the values of a map, after a new key gets one
sum_new : (k : List ℕ) (v : SymbolData) (es : List (List ℕ × SymbolData)) → find (slice_cmp nat_cmp) k es ≡ None
    → sum_by text_bytes (vals (put_row (slice_cmp nat_cmp) k v es)) ≡ sum_by text_bytes (vals es) + text_bytes v
sum_new k v [] new = omega arith
sum_new k v (e ∷ es) new = go (sum_new k v es) (slice_cmp nat_cmp k e.0) new
  where
    go : (find (slice_cmp nat_cmp) k es ≡ None → sum_by text_bytes (vals (put_row (slice_cmp nat_cmp) k v es)) ≡ sum_by text_bytes (vals es) + text_bytes v)
        → (r : Ordering) → cond (is_eq r) (Some e.1) (find (slice_cmp nat_cmp) k es) ≡ None
        → sum_by text_bytes (vals (by_order r ((k, v) ∷ e ∷ es) ((e.0, v) ∷ es) (e ∷ put_row (slice_cmp nat_cmp) k v es))) ≡ sum_by text_bytes (vals (e ∷ es)) + text_bytes v
    go ih Less h = let a = sum_by-cons text_bytes v (e.1 ∷ vals es) in omega (arith, a)
    go ih Equal h = absurd cc
    go ih Greater h =
        let a = sum_by-cons text_bytes e.1 (vals (put_row (slice_cmp nat_cmp) k v es)) in
        let b = sum_by-cons text_bytes e.1 (vals es) in
        let rest = ih h in
        omega (arith, a, b, rest)

sum_insert : (m : FinMap (slice_cmp nat_cmp) SymbolData) (k : List ℕ) (v : SymbolData) → get m k ≡ None
    → sum_by text_bytes (values (insert m k v)) ≡ sum_by text_bytes (values m) + text_bytes v
sum_insert m k v new =
    ap (λ (es : List (List ℕ × SymbolData)). sum_by text_bytes (vals es)) (entries-insert names.total m k v)
    ∙ sum_new k v (entries m) (sym (get-entries m k) ∙ new)

-- another name is as new as before
still_new : (m : FinMap (slice_cmp nat_cmp) SymbolData) (k q : List ℕ) (v : SymbolData) → k ≢ q → get m q ≡ None → get (insert m k v) q ≡ None
still_new m k q v differ new = get-insert names.total m k v q ∙ go (eq_by_cmp (slice_cmp nat_cmp) q k) refl
  where
    go : (b : Bool) → eq_by_cmp (slice_cmp nat_cmp) q k ≡ b → cond b (Some v) (get m q) ≡ None
    go true e = absurd (differ (sym (key_same names q k (names.agree q k ∙ e))))
    go false e = new

-- sheets and objects leave the symbols
objects_keep : (p : ProjectData) (name : List ℕ) (id : ℕ) (os : List ObjectData) → (put p (object_items name id os)).symbols ≡ p.symbols
objects_keep p name id [] = refl
objects_keep p name id (o ∷ os) = objects_keep (put_one p (things.Object id) (Some (contents.Object (record { sheet = name; object = o })))) name (id + 1) os

sheets_keep : (p : ProjectData) (id : ℕ) (queue : List (List ℕ)) (sheets : List SheetData) → (put p (sheets_items id queue sheets)).symbols ≡ p.symbols
sheets_keep p id [] sheets = refl
sheets_keep p id (name ∷ queue) [] = refl
sheets_keep p id (name ∷ queue) (sheet ∷ sheets) =
    ap (λ (q : ProjectData). q.symbols) (put-append p (sheet_items name id sheet) (sheets_items (id + length sheet.objects) queue sheets))
    ∙ sheets_keep (put p (sheet_items name id sheet)) (id + length sheet.objects) queue sheets
    ∙ objects_keep (put_one p (things.SheetName name) (Some (contents.Head sheet.head))) name id sheet.objects

-- symbols that differ and are new add their texts
symbols_add : (p : ProjectData) (asked : List AskedSymbol) → AllPairs (λ (a b : AskedSymbol). a.0 ≢ b.0) asked → All (λ (a : AskedSymbol). get p.symbols a.0 ≡ None) asked
    → symbols_text (put p (symbol_items (filter_map found_symbol asked))) ≡ symbols_text p + sum_by asked_bytes asked
symbols_add p [] apart new = omega arith
symbols_add p ((name, None) ∷ asked) apart new =
    let ih = symbols_add p asked (λ i j d lt end. apart (suc i) (suc j) d (omega arith) (omega arith)) (λ i d lt. new (suc i) d (omega arith)) in
    let a = sum_by-cons asked_bytes (name, None) asked in
    omega (arith, ih, a)
symbols_add p ((name, Some symbol) ∷ asked) apart new =
    let next : ProjectData = put_one p (things.SymbolName name) (Some (contents.Symbol symbol)) in
    let ih = symbols_add next asked (λ i j d lt end. apart (suc i) (suc j) d (omega arith) (omega arith))
    (λ i d lt. still_new p.symbols name _ symbol (apart 0 (suc i) d (omega arith) (omega arith)) (new (suc i) d (omega arith))) in
    let one = sum_insert p.symbols name symbol (new 0 (name, Some symbol) (omega arith)) in
    let a = sum_by-cons asked_bytes (name, Some symbol) asked in
    omega (arith, ih, one, a)

-- the empty project has no symbols
none_in : (es : List (List ℕ × SymbolData)) → length es ≡ 0 → sum_by text_bytes (vals es) ≡ 0
none_in [] none = refl
none_in (e ∷ es) none = absurd (omega (arith, none))

no_symbols : symbols_text empty_project ≡ 0
no_symbols = none_in (entries empty_project.symbols) (sym (len-entries empty_project.symbols) ∙ len-empty (slice_cmp nat_cmp) SymbolData)

-- what is opened is a project within its limits
is_opened : (g : Gathered) (p : ProjectData) → Ok p ≡ gathered_project g → (p ≡ put empty_project (gathered_items g)) × (length (all_objects g) ≤ most_project_objects)
is_opened g p is = go (has_too_many_objects g) (is_over_full g) refl is
  where
    go : (many full : Bool) → has_too_many_objects g ≡ many → Ok p ≡ cond many (Err faults.TooManyObjects) (cond full (Err faults.ProjectFull) (Ok (put empty_project (gathered_items g))))
        → (p ≡ put empty_project (gathered_items g)) × (length (all_objects g) ≤ most_project_objects)
    go true full few h = absurd cc
    go false true few h = absurd cc
    go false false few h = (cc, ltb-false most_project_objects (length (all_objects g)) few)

pub opened_leaves_ids : (g : Gathered) (p : ProjectData) → Ok p ≡ gathered_project g → LeavesIds p
opened_leaves_ids g p is =
    let made = is_opened g p is in
    subst LeavesIds (sym made.0) (leaves_put empty_project (gathered_items g) (λ id some. absurd (let none = subst IsSome (get-empty nat_cmp id) some in cc)) (opening_in_range g made.1))

pub opened_symbols : (g : Gathered) (p : ProjectData) → IsWhole g → Ok p ≡ gathered_project g → sum_by asked_bytes g.symbols ≡ symbols_text p
opened_symbols g p whole is =
    let made = is_opened g p is in
    let with_sheets : ProjectData = put empty_project (sheets_items 0 g.queue g.sheets) in
    let kept = sheets_keep empty_project 0 g.queue g.sheets in
    let new : All (λ (a : AskedSymbol). get with_sheets.symbols a.0 ≡ None) g.symbols = λ i d lt. ap (λ (m : FinMap (slice_cmp nat_cmp) SymbolData). get m (get_or g.symbols i d).0) kept ∙ get-empty (slice_cmp nat_cmp) (get_or g.symbols i d).0 in
    let added = symbols_add with_sheets g.symbols whole.symbols_apart new in
    let all = ap symbols_text (put-append empty_project (sheets_items 0 g.queue g.sheets) (symbol_items (found_library g))) in
    let none : symbols_text with_sheets ≡ 0 = ap (λ (m : FinMap (slice_cmp nat_cmp) SymbolData). sum_by text_bytes (values m)) kept ∙ no_symbols in
    let same = ap symbols_text made.0 in
    omega (arith, added, all, none, same)
