-- Files of sheets that grow: their version lines, in order, and the texts of objects behind them.
use Rattle.std.proofs.Common.{◌≡◌, ℕ, Bool, true, false, List, [], ◌∷◌, ◌++◌, map, cond, Option, None, Some, Result, Ok, Err, refl, sym, ap, ◌∙◌}
use Rattle.std.proofs.lemmas.Cmp.{nat_list_cmp_total}
use Rattle.std.proofs.lemmas.List.{append-nil, append_assoc}
use Rattle.std.proofs.lemmas.Map.Keys.{sorted_head, sorted_tail}
use Rattle.std.proofs.lemmas.Map.Text.{is_eq-slice_cmp}
use Rattle.std.proofs.lemmas.Slice.Eq.{bytes_eq-Decides}
use Rattle.std.specs.Prelude.{OnOk, Vec}
use Rattle.std.specs.declared.alloc.Global.{Global}
use Rattle.std.specs.declared.cmp.Ordering.TheVariants.{Less, Greater}
use Rattle.std.specs.BTreeMap.{insert_entry, is_at}
use Rattle.std.specs.FinMap.{entries, get}
use Rattle.std.specs.List.{AllByRecursion, filter, filter_map, flat_map}
use Rattle.std.specs.List.Sorted.{IsStrictlySortedBy}
use Rattle.std.specs.Map.{keys_of, lookup, set_value}
use Rattle.std.specs.Ordering.{is_eq, match_ordering, ordering_reverse}
use Rattle.std.specs.Str.{bytes_eq}
use Rattle.geda_defs.specs.Order.{by_bytes}
use Rattle.geda_grammar.specs.Canonical.{head_text, object_text}
use Rattle.geda_model.specs.Sheets.{HeadData}
use Rattle.project_files.proofs.WriteLemmas.{seen}
use Rattle.project_model.specs.declared.change.Placed.{Placed}
use Rattle.project_model.specs.Projects.{ProjectData, is_on}
use Rattle.renum_files.specs.RenumberedFiles.{File, renumbered_sheet_file}
use Rattle.renum_files.specs.steps.Growing.{head_file, with_head, with_heads, with_object, with_objects}
use Rattle.renum_files.specs.steps.Rows.{row_text}
use Rattle.renum_files.proofs.RowLemmas.{texts_of}

-- all files come before a sheet
abbrev AllBefore : List ℕ → List File → Type 0
AllBefore name files = AllByRecursion (λ (file : File). by_bytes name file.0 ≡ Greater) files

-- all files come before each of these sheets
abbrev AreBefore : List (List ℕ) → List File → Type 0
AreBefore names files = AllByRecursion (λ (file : File). AllByRecursion (λ (name : List ℕ). by_bytes name file.0 ≡ Greater) names) files

put_last : (files : List File) (name text : List ℕ) → AllBefore name files → insert_entry by_bytes files name text ≡ files ++ (name, text) ∷ []
put_last [] name text all = refl
put_last (file ∷ files) name text all =
    ap (λ o. match_ordering o ((name, text) ∷ file ∷ files) ((file.0, text) ∷ files) (file ∷ insert_entry by_bytes files name text)) all.0
    ∙ ap (λ (fs : List File). file ∷ fs) (put_last files name text all.1)

first_before : (name : List ℕ) (names : List (List ℕ)) (files : List File) → AreBefore (name ∷ names) files → AllBefore name files
first_before name names [] all = tt
first_before name names (file ∷ files) all = (all.0.0, first_before name names files all.1)

others_before : (name : List ℕ) (names : List (List ℕ)) (files : List File) → AreBefore (name ∷ names) files → AreBefore names files
others_before name names [] all = tt
others_before name names (file ∷ files) all = (all.0.1, others_before name names files all.1)

one_before : (name : List ℕ) (names : List (List ℕ)) → AllByRecursion (λ (y : List ℕ). by_bytes name y ≡ Less) names
    → AllByRecursion (λ (y : List ℕ). by_bytes y name ≡ Greater) names
one_before name [] all = tt
one_before name (y ∷ ys) all = (nat_list_cmp_total.antisymm y name ∙ ap ordering_reverse all.0, one_before name ys all.1)

last_before : (names : List (List ℕ)) (files : List File) (name text : List ℕ) → AllByRecursion (λ (y : List ℕ). by_bytes y name ≡ Greater) names
    → AreBefore names files → AreBefore names (files ++ (name, text) ∷ [])
last_before names [] name text one all = (one, tt)
last_before names (file ∷ files) name text one all = (all.0, last_before names files name text one all.1)

-- version lines put behind files that come before them
heads_behind : (p : ProjectData) (names : List (List ℕ)) (files : List File) → IsStrictlySortedBy by_bytes names → AreBefore names files
    → with_heads p names files ≡ files ++ filter_map (head_file p) names
heads_behind p [] files sorted before = sym (append-nil files)
heads_behind p (name ∷ names) files sorted before = by (get p.sheets name) refl (heads_behind p names)
  where
    by : (o : Option HeadData) → get p.sheets name ≡ o
        → ((fs : List File) → IsStrictlySortedBy by_bytes names → AreBefore names fs → with_heads p names fs ≡ fs ++ filter_map (head_file p) names)
        → with_heads p names (with_head name (get p.sheets name) files) ≡ files ++ filter_map (head_file p) (name ∷ names)
    by None e ih = rw e (ih files (sorted_tail by_bytes name names sorted) (others_before name names files before))
    by (Some head) e ih =
        let text = head_text head in
        let put : insert_entry by_bytes files name text ≡ files ++ (name, text) ∷ [] = put_last files name text (first_before name names files before) in
        let more = ih (files ++ (name, text) ∷ []) (sorted_tail by_bytes name names sorted)
        (last_before names files name text (one_before name names (sorted_head by_bytes name names sorted)) (others_before name names files before)) in
        rw e (ap (with_heads p names) put ∙ more ∙ append_assoc files ((name, text) ∷ []) (filter_map (head_file p) names))

-- version lines put together
pub heads_are : (p : ProjectData) (names : List (List ℕ)) → IsStrictlySortedBy by_bytes names → with_heads p names [] ≡ filter_map (head_file p) names
heads_are p names sorted = heads_behind p names [] sorted tt

-- a file of a sheet that comes after the object's stays
after_kept : (placed : Placed) (name : List ℕ) (es : List (List ℕ × Vec ℕ Global)) → placed.sheet ≡ name
    → AllByRecursion (λ (y : List ℕ). by_bytes name y ≡ Less) (keys_of es) → map (with_object placed) (map seen es) ≡ map seen es
after_kept placed name [] same all = refl
after_kept placed name (e ∷ es) same all =
    let apart : bytes_eq placed.sheet e.0 ≡ false = ap (λ (n : List ℕ). bytes_eq n e.0) same ∙ sym (is_eq-slice_cmp name e.0) ∙ ap is_eq all.0 in
    ap (λ b. cond b (e.0, e.1.items ++ object_text placed.object) (seen e) ∷ map (with_object placed) (map seen es)) apart
    ∙ ap (λ (fs : List File). seen e ∷ fs) (after_kept placed name es same all.1)

-- files among which the object's sheet is not stay
pub none_kept : (placed : Placed) (es : List (List ℕ × Vec ℕ Global)) → None ≡ lookup (is_at (by_bytes placed.sheet)) es
    → map (with_object placed) (map seen es) ≡ map seen es
none_kept placed [] none = refl
none_kept placed (e ∷ es) none = by (bytes_eq placed.sheet e.0) refl (none_kept placed es)
  where
    by : (b : Bool) → bytes_eq placed.sheet e.0 ≡ b → (None ≡ lookup (is_at (by_bytes placed.sheet)) es → map (with_object placed) (map seen es) ≡ map seen es)
        → map (with_object placed) (map seen (e ∷ es)) ≡ map seen (e ∷ es)
    by true is ih =
        let hit : is_at (by_bytes placed.sheet) e.0 ≡ true = is_eq-slice_cmp placed.sheet e.0 ∙ is in
        absurd (let wrong : None ≡ Some e.1 = none ∙ ap (λ b. cond b (Some e.1) (lookup (is_at (by_bytes placed.sheet)) es)) hit in cc)
    by false is ih =
        let miss : is_at (by_bytes placed.sheet) e.0 ≡ false = is_eq-slice_cmp placed.sheet e.0 ∙ is in
        let rest : None ≡ lookup (is_at (by_bytes placed.sheet)) es = none ∙ ap (λ b. cond b (Some e.1) (lookup (is_at (by_bytes placed.sheet)) es)) miss in
        rw is (ap (λ (fs : List File). seen e ∷ fs) (ih rest))

-- the text of an object put behind that of its sheet
pub one_grown : (placed : Placed) (es : List (List ℕ × Vec ℕ Global)) (v w : Vec ℕ Global) → IsStrictlySortedBy by_bytes (keys_of es)
    → Some v ≡ lookup (is_at (by_bytes placed.sheet)) es → w.items ≡ v.items ++ object_text placed.object
    → map seen (set_value (is_at (by_bytes placed.sheet)) es w) ≡ map (with_object placed) (map seen es)
one_grown placed [] v w sorted found grown = refl
one_grown placed (e ∷ es) v w sorted found grown = by (bytes_eq placed.sheet e.0) refl (one_grown placed es v w)
  where
    by : (b : Bool) → bytes_eq placed.sheet e.0 ≡ b
        → (IsStrictlySortedBy by_bytes (keys_of es) → Some v ≡ lookup (is_at (by_bytes placed.sheet)) es → w.items ≡ v.items ++ object_text placed.object
        → map seen (set_value (is_at (by_bytes placed.sheet)) es w) ≡ map (with_object placed) (map seen es))
        → map seen (set_value (is_at (by_bytes placed.sheet)) (e ∷ es) w) ≡ map (with_object placed) (map seen (e ∷ es))
    by true is ih =
        let hit : is_at (by_bytes placed.sheet) e.0 ≡ true = is_eq-slice_cmp placed.sheet e.0 ∙ is in
        let same : placed.sheet ≡ e.0 = (bytes_eq-Decides placed.sheet e.0).0 is in
        let here : Some v ≡ Some e.1 = found ∙ ap (λ b. cond b (Some e.1) (lookup (is_at (by_bytes placed.sheet)) es)) hit in
        let value : v ≡ e.1 = cc in
        let text : w.items ≡ e.1.items ++ object_text placed.object = grown ∙ ap (λ (x : Vec ℕ Global). x.items ++ object_text placed.object) value in
        let rest = after_kept placed e.0 es same (sorted_head by_bytes e.0 (keys_of es) sorted) in
        rw (hit, is, text, rest) refl
    by false is ih =
        let miss : is_at (by_bytes placed.sheet) e.0 ≡ false = is_eq-slice_cmp placed.sheet e.0 ∙ is in
        let rest : Some v ≡ lookup (is_at (by_bytes placed.sheet)) es = found ∙ ap (λ b. cond b (Some e.1) (lookup (is_at (by_bytes placed.sheet)) es)) miss in
        rw (miss, is) (ap (λ (fs : List File). seen e ∷ fs) (ih (sorted_tail by_bytes e.0 (keys_of es) sorted) rest grown))

-- the file of a sheet with the texts behind it of those of these objects that stand on the sheet
abbrev with_rows : List (ℕ × Placed) → File → File
with_rows rows file = (file.0, file.1 ++ flat_map row_text (filter (is_on file.0) rows))

-- one object, and then the others
row_first : (row : ℕ × Placed) (rows : List (ℕ × Placed)) (file : File) → with_rows rows (with_object row.1 file) ≡ with_rows (row ∷ rows) file
row_first row rows file = by (bytes_eq row.1.sheet file.0) refl
  where
    by : (b : Bool) → bytes_eq row.1.sheet file.0 ≡ b → with_rows rows (with_object row.1 file) ≡ with_rows (row ∷ rows) file
    by true is = rw (is, append_assoc) refl
    by false is = rw is refl

rows_first : (row : ℕ × Placed) (rows : List (ℕ × Placed)) (files : List File)
    → map (with_rows rows) (map (with_object row.1) files) ≡ map (with_rows (row ∷ rows)) files
rows_first row rows [] = refl
rows_first row rows (file ∷ files) = λ i. row_first row rows file i ∷ rows_first row rows files i

no_rows : (files : List File) → files ≡ map (with_rows []) files
no_rows [] = refl
no_rows (file ∷ files) = λ i. (file.0, sym (append-nil file.1) i) ∷ no_rows files i

each_grown : (rows : List (ℕ × Placed)) (files : List File) → with_objects rows files ≡ map (with_rows rows) files
each_grown [] files = no_rows files
each_grown (row ∷ rows) files = each_grown rows (map (with_object row.1) files) ∙ rows_first row rows files

whole : (p : ProjectData) (names : List (List ℕ)) → map (with_rows (entries p.objects)) (filter_map (head_file p) names) ≡ filter_map (renumbered_sheet_file p) names
whole p [] = refl
whole p (name ∷ names) = by (get p.sheets name) refl (whole p names)
  where
    by : (o : Option HeadData) → get p.sheets name ≡ o
        → map (with_rows (entries p.objects)) (filter_map (head_file p) names) ≡ filter_map (renumbered_sheet_file p) names
        → map (with_rows (entries p.objects)) (filter_map (head_file p) (name ∷ names)) ≡ filter_map (renumbered_sheet_file p) (name ∷ names)
    by None e ih = rw e ih
    by (Some head) e ih = rw e (λ i. (name, head_text head ++ texts_of (filter (is_on name) (entries p.objects)) i) ∷ ih i)

-- all objects put behind the version lines
pub files_are : (p : ProjectData) (names : List (List ℕ)) → with_objects (entries p.objects) (filter_map (head_file p) names) ≡ filter_map (renumbered_sheet_file p) names
files_are p names = each_grown (entries p.objects) (filter_map (head_file p) names) ∙ whole p names

-- what holds after success, by what holds then already
pub on_ok : {T E : Type 0} {P Q : Type 0} → (P → Q) → (r : Result T E) → OnOk r P → OnOk r Q
on_ok to (Ok x) h = to h
on_ok to (Err e) h = tt
