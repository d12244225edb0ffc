-- The ids of each sheet: after a run of objects, and after all.
use Rattle.std.proofs.Common.{◌≡◌, ℕ, Bool, true, false, List, [], ◌∷◌, ◌++◌, ◌+◌, ◌<◌, suc, Option, Some, drop, get_or, length, map, refl, ap, sym, arith, ◌∙◌}
use Rattle.std.specs.Prelude.{not}
use Rattle.std.specs.Borrow.{Bor}
use Rattle.std.specs.BTreeMap.{Updates, get, is_at}
use Rattle.std.specs.List.{filter}
use Rattle.std.specs.Map.{keys_of}
use Rattle.std.specs.Option.{unwrap_or}
use Rattle.std.specs.Str.{bytes_eq}
use Rattle.std.proofs.Math.Seq.{drop-cons}
use Rattle.std.proofs.lemmas.List.{append_assoc}
use Rattle.std.proofs.lemmas.Map.Text.{is_eq-slice_cmp}
use Rattle.std.proofs.lemmas.Slice.Eq.{bytes_eq-Decides}
use Rattle.project_model.specs.declared.change.Placed.{Placed}
use Rattle.project_model.specs.Tables.{row_now}
use Rattle.project_model.specs.Projects.{is_on}
use Rattle.geda_defs.specs.Order.{by_bytes}
use Rattle.instance_objects.specs.SheetIds.{IdsBySheet, ids_at}
use Rattle.instance_objects.specs.steps.SheetIds.{AddsRun, PutsRun, held, ids_in}

-- an object of the sheet more is gathered
pub held_more : (sheet ids : List ℕ) (row : ℕ × Placed) (rows : List (ℕ × Placed)) → row.1.sheet ≡ sheet → PutsRun sheet ids (ids ++ row.0 ∷ []) (row ∷ rows) rows
held_more sheet ids row rows same name = by (bytes_eq sheet name) refl
  where
    by : (b : Bool) → bytes_eq sheet name ≡ b → held sheet (ids ++ row.0 ∷ []) name ++ ids_in rows name ≡ held sheet ids name ++ ids_in (row ∷ rows) name
    by true e =
        let on : is_on name row ≡ true = ap (λ (s : List ℕ). bytes_eq s name) same ∙ e in
        rw (e, on) (append_assoc ids (row.0 ∷ []) (ids_in rows name))
    by false e =
        let off : is_on name row ≡ false = ap (λ (s : List ℕ). bytes_eq s name) same ∙ e in
        rw (e, off) refl

-- what stands from a place on
rest_from : {A : Type 0} (xs : List A) (place : ℕ) (x : A) → place < length xs → x ≡ get_or xs place x → drop place xs ≡ x ∷ drop (place + 1) xs
rest_from {A} xs place x lt at =
    let one : suc place ≡ place + 1 = omega arith in
    drop-cons xs place x lt ∙ ap (λ (y : A). y ∷ drop (suc place) xs) (sym at) ∙ ap (λ (n : ℕ). x ∷ drop n xs) one

-- texts that a test finds not to differ
pub same_text : (a b : List ℕ) (differs : Bool) → differs ≡ not (bytes_eq a b) → differs ≡ false → a ≡ b
same_text a b differs e f = (bytes_eq-Decides a b).0 (by (bytes_eq a b) (sym e ∙ f))
  where
    by : (same : Bool) → not same ≡ false → same ≡ true
    by true h = refl
    by false h = absurd (let other : true ≡ false = h in cc)

-- the same of lent rows, from a place on
pub puts_more : (sheet first ids more : List ℕ) (all : List (ℕ × Placed)) (rows : List (ℕ × Bor Placed)) (place : ℕ) (row : ℕ × Bor Placed)
    → place < length rows → row ≡ get_or rows place row → row.1.now.sheet ≡ sheet → more ≡ ids ++ row.0 ∷ []
    → PutsRun sheet first ids all (map row_now (drop place rows)) → PutsRun sheet first more all (map row_now (drop (place + 1) rows))
puts_more sheet first ids more all rows place row lt at same made puts name =
    let left = map row_now (drop (place + 1) rows) in
    let parts : drop place rows ≡ row ∷ drop (place + 1) rows = rest_from rows place row lt at in
    ap (λ (is : List ℕ). held sheet is name ++ ids_in left name) made
    ∙ held_more sheet ids (row_now row) left same name
    ∙ ap (λ (rs : List (ℕ × Bor Placed)). held sheet ids name ++ ids_in (map row_now rs) name) (sym parts)
    ∙ puts name

-- the list of a sheet, empty where there was none, is made longer by a run
pub adds_run : (old new : IdsBySheet) (known : Option (List ℕ)) (sheet key ids : List ℕ) (rows rest : List (ℕ × Placed))
    → known ≡ get by_bytes old sheet → key ≡ sheet → PutsRun sheet (unwrap_or known []) ids rows rest
    → Updates by_bytes old new key (Some ids) → AddsRun old new rows rest
adds_run old new known sheet key ids rows rest is is_key puts updates name = by (bytes_eq sheet name) refl
  where
    by : (b : Bool) → bytes_eq sheet name ≡ b → ids_at new name ++ ids_in rest name ≡ ids_at old name ++ ids_in rows name
    by true e =
        let hit : is_at (by_bytes sheet) name ≡ true = is_eq-slice_cmp sheet name ∙ e in
        let same : sheet ≡ name = (bytes_eq-Decides sheet name).0 e in
        let after : ids_at new name ≡ ids = rw (updates.0 name, is_key, hit) refl in
        let before : unwrap_or known [] ≡ ids_at old name = ap (λ (k : Option (List ℕ)). unwrap_or k []) (is ∙ ap (get by_bytes old) same) in
        let run : ids ++ ids_in rest name ≡ unwrap_or known [] ++ ids_in rows name = rw e at (puts name) in
        ap (λ (is : List ℕ). is ++ ids_in rest name) after ∙ run ∙ ap (λ (is : List ℕ). is ++ ids_in rows name) before
    by false e =
        let miss : is_at (by_bytes sheet) name ≡ false = is_eq-slice_cmp sheet name ∙ e in
        let after : ids_at new name ≡ ids_at old name = rw (updates.0 name, is_key, miss) refl in
        let run : ids_in rest name ≡ ids_in rows name = rw e at (puts name) in
        ap (λ (is : List ℕ). is ++ ids_in rest name) after ∙ ap (λ (is : List ℕ). ids_at old name ++ is) run

-- a run of lent rows from a place on is put into a table
pub table_more : (old new : IdsBySheet) (rows : List (ℕ × Bor Placed)) (place end : ℕ) (row : ℕ × Bor Placed)
    → place < length rows → row ≡ get_or rows place row
    → AddsRun old new (row_now row ∷ map row_now (drop (place + 1) rows)) (map row_now (drop end rows))
    → ((name : List ℕ) → ids_at old name ++ ids_in (map row_now (drop place rows)) name ≡ ids_in (map row_now rows) name)
    → (name : List ℕ) → ids_at new name ++ ids_in (map row_now (drop end rows)) name ≡ ids_in (map row_now rows) name
table_more old new rows place end row lt at adds before name =
    adds name
    ∙ ap (λ (rs : List (ℕ × Bor Placed)). ids_at old name ++ ids_in (map row_now rs) name) (sym (rest_from rows place row lt at))
    ∙ before name

-- the ids of those objects that stand on a sheet
pub ids_in-are : (rows : List (ℕ × Placed)) (name : List ℕ) → ids_in rows name ≡ keys_of (filter (is_on name) rows)
ids_in-are [] name = refl
ids_in-are (row ∷ rows) name = by (is_on name row) refl (ids_in-are rows name)
  where
    by : (b : Bool) → is_on name row ≡ b → ids_in rows name ≡ keys_of (filter (is_on name) rows)
        → ids_in (row ∷ rows) name ≡ keys_of (filter (is_on name) (row ∷ rows))
    by true e h = rw e (ap (λ ids. row.0 ∷ ids) h)
    by false e h = rw e h
