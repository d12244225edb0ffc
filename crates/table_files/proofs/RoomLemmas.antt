-- The room of a history of one entry that adds a sheet.
use Rattle.std.proofs.Common.{◌≡◌, ◌==◌, ◌&&◌, ℕ, ◌+◌, ◌*◌, ◌-◌, ◌^◌, ◌<◌, ◌≤◌, true, false, List, [], ◌∷◌, length, map, min, nat_le, Bor, Result, Ok, Err, codes, refl, sym, ap, subst, ◌∙◌, arith}
use Rattle.std.specs.List.{AllByRecursion, sum_by}
use Rattle.std.specs.FinMap as finite
use Rattle.std.specs.FinMap.{len-empty, len-entries}
use Rattle.std.specs.Cmp.Lexicographic.{slice_cmp}
use Rattle.std.specs.Ordering.{nat_cmp}
use Rattle.std.specs.Str.{bytes_eq}
use Rattle.std.proofs.lemmas.Bool.{and_parts, eqb-true, leb-true}
use Rattle.std.proofs.lemmas.List.{nil_from_length}
use Rattle.std.proofs.lemmas.List.Sums.{sum_by-cons}
use Rattle.geda_defs.proofs.Bytes.{bytes_same, bytes_true}
use Rattle.geda_grammar.specs.declared.kind.ReadKind.{ReadKind}
use Rattle.geda_model.specs.Sheets.{ObjectData, SheetData, SymbolData}
use Rattle.project_model.specs.Changes.{put}
use Rattle.project_model.specs.Projects.{ProjectData}
use Rattle.project_model.specs.Tables.{row_now}
use Rattle.project_model.specs.declared.change.Placed.{Placed}
use Rattle.edit_entries.specs.Entries.{EntryData, entry_size}
use Rattle.edit_entries.specs.declared.edit.Edit.{Edit}
use Rattle.edit_entries.specs.declared.edit.Edit.TheVariants as edits
use Rattle.edit_rules.specs.Altering.{object_item}
use Rattle.edit_rules.specs.EarlyLines.{last_number}
use Rattle.edit_rules.specs.EditChanges.{objects_from, sheet_change}
use Rattle.edit_rules.specs.Histories.{changes, project}
use Rattle.edit_rules.specs.LateLines.{placed_bytes, symbol_bytes}
use Rattle.edit_rules.specs.Values.{sheet_value}
use Rattle.edit_rules.specs.Verdicts.{Legal}
use Rattle.edit_rules.proofs.Accepting.{accepted}
use Rattle.edit_rules.proofs.LongerHistories.{project_push}
use Rattle.attr_table.specs.SheetTables.{Numbered}
use Rattle.desk_entries.specs.steps.RoomForEntries.{IsFileText, IsRoomForEntries, component_bytes, component_size}
use Rattle.desk_entries.proofs.OrderlyHistories.{last_own}
use Rattle.table_files.specs.steps.Openings.{adds_sheet, is_opened, is_opening}
use Rattle.table_files.specs.steps.Objects.{Row, all_on, have_keys, row_bytes}
use Rattle.table_files.specs.steps.Room.{AreLittle, HaveRoom, IsInItsRanges}
use Rattle.table_files.proofs.ObjectLemmas.{lent_keys}

-- the one entry of such a history
pub record IsOne (h : List EntryData) : Type 0 where
  pub entry : EntryData
  pub is : h ≡ entry ∷ []
  pub opening : is_opening entry ≡ true

pub one : (h : List EntryData) → is_opened h ≡ true → IsOne h
one [] t = absurd (let clash : false ≡ true = t in cc)
one (e ∷ []) t = record { entry = e; is = refl; opening = t }
one (e ∷ f ∷ h) t = absurd (let n = eqb-true (length (e ∷ f ∷ h)) 1 (and_parts (length (e ∷ f ∷ h) == 1) (is_opening e) t).0 in omega (arith, n))

-- objects and a version line leave the symbols
objects_leave : (p : ProjectData) (sheet : List ℕ) (id : ℕ) (os : List ObjectData) → (put p (objects_from sheet id os)).symbols ≡ p.symbols
objects_leave p sheet id [] = refl
objects_leave p sheet id (o ∷ os) = objects_leave (put p (object_item sheet id o ∷ [])) sheet (id + 1) os

sheet_leaves : (p : ProjectData) (sheet : List ℕ) (id : ℕ) (r : Result SheetData (ReadKind × ℕ)) → (put p (sheet_change sheet id r)).symbols ≡ p.symbols
sheet_leaves p sheet id (Err fault) = refl
sheet_leaves p sheet id (Ok s) = objects_leave _ sheet id s.objects

none_weigh : (m : finite.FinMap (slice_cmp nat_cmp) SymbolData) → m ≡ finite.empty → sum_by symbol_bytes (finite.values m) ≡ 0
none_weigh m is =
    let none : finite.entries m ≡ [] = nil_from_length (finite.entries m) (sym (len-entries m) ∙ ap finite.len is ∙ len-empty (slice_cmp nat_cmp) SymbolData) in
    ap (λ (es : List (List ℕ × SymbolData)). sum_by symbol_bytes (map (λ e. e.1) es)) none

module _ (e : EntryData) (t : is_opening e ≡ true) where
  abbrev alone : List EntryData
  alone = e ∷ []

  parts : (bytes_eq e.session (codes "fill") ≡ true) × ((e.number == 1 && (adds_sheet e.edit && nat_le (entry_size e) 134217728)) ≡ true)
  parts = and_parts (bytes_eq e.session (codes "fill")) (e.number == 1 && (adds_sheet e.edit && nat_le (entry_size e) 134217728)) t

  later : ((e.number == 1) ≡ true) × ((adds_sheet e.edit && nat_le (entry_size e) 134217728) ≡ true)
  later = and_parts (e.number == 1) (adds_sheet e.edit && nat_le (entry_size e) 134217728) parts.1

  last : (adds_sheet e.edit ≡ true) × (nat_le (entry_size e) 134217728 ≡ true)
  last = and_parts (adds_sheet e.edit) (nat_le (entry_size e) 134217728) later.1

  pub next_number : last_number alone (codes "fill") + 1 ≡ 2
  next_number =
      let own = last_own [] e (codes "fill") (bytes_true (codes "fill") e.session (sym (bytes_same e.session (codes "fill") parts.0))) in
      let n = eqb-true e.number 1 later.0 in
      omega (arith, own, n)

  small : sum_by entry_size alone ≤ 134217728
  small =
      let one_size = sum_by-cons entry_size e [] in
      let few = leb-true (entry_size e) 134217728 last.1 in
      omega (arith, one_size, few)

  no_symbols : sum_by symbol_bytes (finite.values (project alone).symbols) ≡ 0
  no_symbols = none_weigh (project alone).symbols (by e.edit refl last.0)
    where
      by : (edit : Edit) → e.edit ≡ edit → adds_sheet edit ≡ true → (project alone).symbols ≡ finite.empty
      by (edits.AddSheet name text) is u =
          ap (λ (p : ProjectData). p.symbols) (project_push [] e)
          ∙ ap (λ (d : Edit). (put (project []) (changes [] d)).symbols) is
          ∙ sheet_leaves (project []) name (project []).next_id (sheet_value text)
      by (edits.AddSymbol name text) is u = absurd (let clash : false ≡ true = u in cc)
      by (edits.ReplaceSymbol name text) is u = absurd (let clash : false ≡ true = u in cc)
      by (edits.AddObject name text) is u = absurd (let clash : false ≡ true = u in cc)
      by (edits.Replace id text) is u = absurd (let clash : false ≡ true = u in cc)
      by (edits.Delete ids) is u = absurd (let clash : false ≡ true = u in cc)
      by (edits.Move ids dx dy) is u = absurd (let clash : false ≡ true = u in cc)
      by (edits.Turn ids x y quarter mirror) is u = absurd (let clash : false ≡ true = u in cc)
      by (edits.SetAttr id name value) is u = absurd (let clash : false ≡ true = u in cc)
      by (edits.DropAttr id name) is u = absurd (let clash : false ≡ true = u in cc)
      by edits.Renumber is u = absurd (let clash : false ≡ true = u in cc)
      by (edits.Undo serial) is u = absurd (let clash : false ≡ true = u in cc)

-- the sizes of entries of this session
sizes : (cs : List Numbered) → sum_by (component_size (codes "fill")) cs ≡ 72 * length cs + sum_by component_bytes cs
sizes [] = refl
sizes (c ∷ cs) =
    let a = sum_by-cons (component_size (codes "fill")) c cs in
    let b = sum_by-cons component_bytes c cs in
    let own : component_size (codes "fill") c ≡ 64 + (4 + (4 + component_bytes c)) = refl in
    let rest = sizes cs in
    omega (arith, a, b, own, rest)

-- what is within a limit that is told of a sum
within : (kept all most : ℕ) → min all (2 ^ 64 - 1) ≤ kept → kept ≤ most → most < 2 ^ 64 - 1 → all ≤ kept
within kept all most is le lt = omega (arith, is, le, lt)

sum_of_rows : (rows : List Row) → sum_by row_bytes rows ≡ sum_by placed_bytes (map (λ (row : Row). row.1) rows)
sum_of_rows [] = refl
sum_of_rows (row ∷ rows) =
    let a = sum_by-cons row_bytes row rows in
    let b = sum_by-cons placed_bytes row.1 (map (λ (row : Row). row.1) rows) in
    let rest = sum_of_rows rows in
    omega (arith, a, b, rest)

-- no limit is near
room : (h : List EntryData) (cs : List Numbered) (old new : ℕ) → Legal h → is_opened h ≡ true
    → min (sum_by row_bytes (finite.entries (project h).objects)) (2 ^ 64 - 1) ≤ old → min (sum_by component_bytes cs) (2 ^ 64 - 1) ≤ new
    → AllByRecursion IsFileText cs → AreLittle old new (length cs) → IsRoomForEntries h (codes "fill") cs
room h cs old new legal opened a b short few = by (one h opened)
  where
    by : IsOne h → IsRoomForEntries h (codes "fill") cs
    by o =
        let e = o.entry in
        let own : Legal (e ∷ []) = subst Legal o.is legal in
        let accept = accepted [] e _ (own 0 e refl) in
        let pushed = project_push [] e in
        let both = few.both in
        let old_is = within old (sum_by row_bytes (finite.entries (project h).objects)) 67108864 a (omega (arith, both)) (omega arith) in
        let rows = sum_of_rows (finite.entries (project h).objects) in
        let new_is = within new (sum_by component_bytes cs) 67108864 b (omega (arith, both)) (omega arith) in
        let small_one : sum_by entry_size h ≤ 134217728 = subst (λ (g : List EntryData). sum_by entry_size g ≤ 134217728) (sym o.is) (small e o.opening) in
        let symbols : sum_by symbol_bytes (finite.values (project h).symbols) ≡ 0 =
        subst (λ (g : List EntryData). sum_by symbol_bytes (finite.values (project g).symbols) ≡ 0) (sym o.is) (no_symbols e o.opening) in
        let size = sizes cs in
        let count = ap length o.is in
        let n = few.few in
        record {
          entries = omega (arith, count, n);
          bytes = omega (arith, small_one, size, new_is, n, both);
          sheets = subst (λ (g : List EntryData). finite.len (project g).sheets ≤ 1024) (sym o.is) (subst (λ (p : ProjectData). finite.len p.sheets ≤ 1024) (sym pushed) accept.few_sheets);
          symbols = subst (λ (g : List EntryData). finite.len (project g).symbols ≤ 8192) (sym o.is) (subst (λ (p : ProjectData). finite.len p.symbols ≤ 8192) (sym pushed) accept.few_symbols);
          text = omega (arith, both, old_is, rows, new_is, symbols);
          each = short;
        }

-- so it is said of rows that are lent
pub have_room : (h : List EntryData) (sheet : List ℕ) (rows : List (ℕ × Bor Placed)) (cs : List Numbered) (old new : ℕ) → map row_now rows ≡ finite.entries (project h).objects
    → Legal h → is_opened h ≡ true → all_on sheet (map row_now rows) ≡ true → have_keys rows cs ≡ true → AllByRecursion IsInItsRanges cs → AllByRecursion IsFileText cs
    → min (sum_by row_bytes (map row_now rows)) (2 ^ 64 - 1) ≤ old → min (sum_by component_bytes cs) (2 ^ 64 - 1) ≤ new → AreLittle old new (length cs)
    → HaveRoom h sheet (map row_now rows) cs
have_room h sheet rows cs old new same legal opened home keys range short a b few = record {
  legal = legal;
  opened = opened;
  home = home;
  keys = lent_keys rows cs ∙ keys;
  range = range;
  room = room h cs old new legal opened (subst (λ (rs : List Row). min (sum_by row_bytes rs) (2 ^ 64 - 1) ≤ old) same a) b short few;
}
