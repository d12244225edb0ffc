-- Objects among which components are put in, each at the place that its id is.
use Rattle.std.proofs.Common.{◌≡◌, ◌==◌, ◌&&◌, T, ℕ, zero, suc, Bool, true, false, List, [], ◌∷◌, map, Bor, Option, None, Some, refl, sym, ap, ap₂, ◌∙◌}
use Rattle.std.specs.Prelude.{option_map, slice_set}
use Rattle.std.specs.List.{slice_get}
use Rattle.std.specs.FinMap.{entries, entries-insert, entries_sorted}
use Rattle.std.specs.FinMap.Entries.{below_all, by_order, is_sorted, put}
use Rattle.std.specs.Cmp.{tied_itself}
use Rattle.std.specs.Ordering.{is_lt, nat_cmp, ordering_reverse}
use Rattle.std.specs.declared.cmp.Ordering.{Ordering}
use Rattle.std.specs.declared.cmp.Ordering.TheVariants.{Less, Equal, Greater}
use Rattle.std.proofs.lemmas.Bool.{and_parts, eqb-true}
use Rattle.std.proofs.lemmas.Cmp.{nat_cmp_total}
use Rattle.std.proofs.lemmas.List.{map-set}
use Rattle.std.proofs.lemmas.Option.{slice_get-map}
use Rattle.geda_defs.proofs.Bytes.{bytes_true}
use Rattle.geda_model.specs.Sheets.{ObjectData}
use Rattle.project_model.specs.Changes as changes
use Rattle.project_model.specs.Projects.{ProjectData, is_on}
use Rattle.project_model.specs.Tables.{row_now}
use Rattle.project_model.specs.declared.change.Placed.{Placed}
use Rattle.attr_table.specs.Filling.{component_item}
use Rattle.attr_table.specs.SheetTables.{Numbered}
use Rattle.table_files.specs.steps.Objects.{Row, all_on, has_key, have_keys, is_key, object_of, with_components}

not_there : {P : Type 0} (row : Row) → None ≡ Some row → P
not_there row e = absurd (let t : None ≡ Some row = e in cc)

same_row : (a b : Row) → Some a ≡ Some b → a ≡ b
same_row a b e = cc

first : (a b : Bool) → T (a && b) → T a
first true b p = tt
first false b p = absurd p

second : (a b : Bool) → T (a && b) → T b
second true b p = p
second false b p = absurd p

less : (o : Ordering) → T (is_lt o) → o ≡ Less
less Less p = refl
less Equal p = absurd p
less Greater p = absurd p

-- a key below all is below that of each row
below_at : (key : ℕ) (rows : List Row) (i : ℕ) (row : Row) → T (below_all nat_cmp key rows) → slice_get rows i ≡ Some row → nat_cmp key row.0 ≡ Less
below_at key [] zero row below at = not_there row at
below_at key [] (suc i) row below at = not_there row at
below_at key (x ∷ rows) zero row below at =
    ap (λ (r : Row). nat_cmp key r.0) (sym (same_row x row at)) ∙ less (nat_cmp key x.0) (first (is_lt (nat_cmp key x.0)) (below_all nat_cmp key rows) below)
below_at key (x ∷ rows) (suc i) row below at = below_at key rows i row (second (is_lt (nat_cmp key x.0)) (below_all nat_cmp key rows) below) at

-- a row that comes at its key comes at its place
put_there : (key : ℕ) (placed : Placed) (rows : List Row) (i : ℕ) (row : Row) → T (is_sorted nat_cmp rows) → slice_get rows i ≡ Some row → row.0 ≡ key
    → put nat_cmp key placed rows ≡ slice_set rows i (key, placed)
put_there key placed [] zero row sorted at same = not_there row at
put_there key placed [] (suc i) row sorted at same = not_there row at
put_there key placed (x ∷ rows) zero row sorted at same =
    let own : x.0 ≡ key = ap (λ (r : Row). r.0) (same_row x row at) ∙ same in
    let tie : nat_cmp key x.0 ≡ Equal = ap (nat_cmp key) own ∙ tied_itself nat_cmp_total key in
    ap (λ (o : Ordering). by_order o ((key, placed) ∷ x ∷ rows) ((x.0, placed) ∷ rows) (x ∷ put nat_cmp key placed rows)) tie
    ∙ ap (λ (k : ℕ). (k, placed) ∷ rows) own
put_there key placed (x ∷ rows) (suc i) row sorted at same =
    let below = below_at x.0 rows i row (first (below_all nat_cmp x.0 rows) (is_sorted nat_cmp rows) sorted) at in
    let later : nat_cmp x.0 key ≡ Less = ap (nat_cmp x.0) (sym same) ∙ below in
    let above : nat_cmp key x.0 ≡ Greater = nat_cmp_total.antisymm key x.0 ∙ ap ordering_reverse later in
    ap (λ (o : Ordering). by_order o ((key, placed) ∷ x ∷ rows) ((x.0, placed) ∷ rows) (x ∷ put nat_cmp key placed rows)) above
    ∙ ap (λ (rest : List Row). x ∷ rest) (put_there key placed rows i row (second (below_all nat_cmp x.0 rows) (is_sorted nat_cmp rows) sorted) at same)

-- the row at the place of a key
record HasRow (rows : List Row) (i key : ℕ) : Type 0 where
  row : Row
  there : slice_get rows i ≡ Some row
  same : row.0 ≡ key

row_there : (rows : List Row) (i key : ℕ) → is_key key (slice_get rows i) ≡ true → HasRow rows i key
row_there rows i key e = by (slice_get rows i) refl e
  where
    by : (o : Option Row) → slice_get rows i ≡ o → is_key key o ≡ true → HasRow rows i key
    by None at t = absurd (let clash : false ≡ true = t in cc)
    by (Some row) at t = record { row = row; there = at; same = eqb-true row.0 key t }

-- keys stay where a row comes to the place of its key
key_kept : (rows : List Row) (k i id : ℕ) (row : Row) → is_key row.0 (slice_get rows k) ≡ true → is_key id (slice_get (slice_set rows k row) i) ≡ is_key id (slice_get rows i)
key_kept [] zero i id row e = refl
key_kept [] (suc k) i id row e = refl
key_kept (x ∷ rows) zero zero id row e = ap (λ (n : ℕ). n == id) (sym (eqb-true x.0 row.0 e))
key_kept (x ∷ rows) zero (suc i) id row e = refl
key_kept (x ∷ rows) (suc k) zero id row e = refl
key_kept (x ∷ rows) (suc k) (suc i) id row e = key_kept rows k i id row e

keys_kept : (rows : List Row) (k : ℕ) (row : Row) (cs : List Numbered) → is_key row.0 (slice_get rows k) ≡ true → have_keys (slice_set rows k row) cs ≡ have_keys rows cs
keys_kept rows k row [] e = refl
keys_kept rows k row (c ∷ cs) e = ap₂ (λ (a b : Bool). a && b) (key_kept rows k c.0 c.0 row e) (keys_kept rows k row cs e)

-- all stand in the sheet where one that does comes in
still_on : (sheet : List ℕ) (rows : List Row) (k : ℕ) (row : Row) → is_on sheet row ≡ true → all_on sheet rows ≡ true → all_on sheet (slice_set rows k row) ≡ true
still_on sheet [] zero row own home = refl
still_on sheet [] (suc k) row own home = refl
still_on sheet (x ∷ rows) zero row own home = ap₂ (λ (a b : Bool). a && b) own (and_parts (is_on sheet x) (all_on sheet rows) home).1
still_on sheet (x ∷ rows) (suc k) row own home =
    let parts = and_parts (is_on sheet x) (all_on sheet rows) home in
    ap₂ (λ (a b : Bool). a && b) parts.0 (still_on sheet rows k row own parts.1)

-- what comes of the objects of a sheet where components are put in
pub record ArePutIn (p q : ProjectData) (sheet : List ℕ) (cs : List Numbered) : Type 0 where
  pub objects : with_components (map object_of (entries p.objects)) cs ≡ map object_of (entries q.objects)
  pub home : all_on sheet (entries q.objects) ≡ true

pub components_put : (p : ProjectData) (sheet : List ℕ) (cs : List Numbered) → all_on sheet (entries p.objects) ≡ true → have_keys (entries p.objects) cs ≡ true
    → ArePutIn p (changes.put p (map (component_item sheet) cs)) sheet cs
components_put p sheet [] home keys = record { objects = refl; home = home }
components_put p sheet (c ∷ cs) home keys =
    let row : Row = (c.0, record { sheet = sheet; object = c.1 }) in
    let rows : List Row = entries p.objects in
    let q : ProjectData = changes.put p (component_item sheet c ∷ []) in
    let parts = and_parts (has_key rows c.0) (have_keys rows cs) keys in
    let h = row_there rows c.0 c.0 parts.0 in
    let one : entries q.objects ≡ slice_set rows c.0 row =
    entries-insert nat_cmp_total p.objects c.0 row.1 ∙ put_there c.0 row.1 rows c.0 h.row (entries_sorted p.objects) h.there h.same in
    let keep : have_keys (entries q.objects) cs ≡ true = ap (λ (rs : List Row). have_keys rs cs) one ∙ keys_kept rows c.0 row cs parts.0 ∙ parts.1 in
    let still : all_on sheet (entries q.objects) ≡ true = ap (all_on sheet) one ∙ still_on sheet rows c.0 row (bytes_true sheet sheet refl) home in
    let rest = components_put q sheet cs still keep in
    record {
      objects = ap (λ (os : List ObjectData). with_components os cs) (sym (map-set object_of rows c.0 row) ∙ ap (map object_of) (sym one)) ∙ rest.objects;
      home = rest.home;
    }

-- what is kept of a project where components are put in
pub sheets_kept : (p : ProjectData) (sheet : List ℕ) (cs : List Numbered) → (changes.put p (map (component_item sheet) cs)).sheets ≡ p.sheets
sheets_kept p sheet [] = refl
sheets_kept p sheet (c ∷ cs) = sheets_kept (changes.put p (component_item sheet c ∷ [])) sheet cs

-- rows that are lent have the keys that they have
same_key : (id : ℕ) (row : Option (ℕ × Bor Placed)) → is_key id (option_map row_now row) ≡ is_key id row
same_key id None = refl
same_key id (Some row) = refl

pub lent_keys : (rows : List (ℕ × Bor Placed)) (cs : List Numbered) → have_keys (map row_now rows) cs ≡ have_keys rows cs
lent_keys rows [] = refl
lent_keys rows (c ∷ cs) =
    ap₂ (λ (a b : Bool). a && b) (ap (is_key c.0) (slice_get-map row_now rows c.0) ∙ same_key c.0 (slice_get rows c.0)) (lent_keys rows cs)
