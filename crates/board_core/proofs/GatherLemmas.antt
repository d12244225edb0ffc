-- Lists that are gathered from objects, one after the other.
use Rattle.std.proofs.Common.{◌≡◌, ◌<◌, ◌+◌, ℕ, Bool, true, false, cond, List, [], ◌∷◌, ◌++◌, Option, Some, None, Result, Ok, Err, IfOk, OnOk, OnErr, append_assoc, drop, filter, get_or, length, map, refl, sym, ap, ◌∙◌}
use Rattle.std.specs.Borrow.{Bor}
use Rattle.std.specs.List.{filter_map}
use Rattle.std.specs.Option.{option_map}
use Rattle.std.proofs.lemmas.List.{append-nil, drop_more, map-append}
use Rattle.project_model.specs.declared.change.Placed.{Placed}
use Rattle.project_model.specs.Projects.{ProjectData}
use Rattle.project_model.specs.Tables.{row_now}
use Rattle.sheet_groups.specs.Conductors.{SheetConductor, conductors_at}
use Rattle.group_runs.specs.Runs.{Coming}
use Rattle.project_model.specs.Items.{Item}
use Rattle.board_core.specs.steps.Kept.{named_by, sheets_at, sheets_named}
use Rattle.board_core.specs.steps.Standing.{come, drawn_in, leave, some_row, without_shape}

module _ (all : List (ℕ × Bor Placed)) (goal : List (ℕ × Placed)) where
  -- one more of those that pass a test
  pub filtered_more : (t : ℕ × Placed → Bool) (rows : List (ℕ × Bor Placed)) (i : ℕ) (row : ℕ × Bor Placed) (wanted : Bool) → i < length rows → row ≡ get_or rows i row
      → map row_now all ++ filter t (map row_now (drop i rows)) ≡ goal → wanted ≡ t (row_now row)
      → map row_now (all ++ cond wanted (row ∷ []) []) ++ filter t (map row_now (drop (i + 1) rows)) ≡ goal
  filtered_more t rows i row wanted lt here before is = by wanted is
    where
      rest : List (ℕ × Placed)
      rest = filter t (map row_now (drop (i + 1) rows))

      next : map row_now (drop i rows) ≡ row_now row ∷ map row_now (drop (i + 1) rows)
      next = ap (map row_now) (drop_more rows i row lt) ∙ ap (λ r. row_now r ∷ map row_now (drop (i + 1) rows)) (sym here)

      was : map row_now all ++ cond (t (row_now row)) (row_now row ∷ filter t (map row_now (drop (i + 1) rows))) (filter t (map row_now (drop (i + 1) rows))) ≡ goal
      was = sym (ap (λ rs. map row_now all ++ filter t rs) next) ∙ before

      by : (b : Bool) → b ≡ t (row_now row) → map row_now (all ++ cond b (row ∷ []) []) ++ filter t (map row_now (drop (i + 1) rows)) ≡ goal
      by true e =
          ap (λ rs. rs ++ filter t (map row_now (drop (i + 1) rows))) (map-append row_now all (row ∷ []))
          ∙ append_assoc (map row_now all) (row_now row ∷ []) (filter t (map row_now (drop (i + 1) rows)))
          ∙ ap (λ b. map row_now all ++ cond b (row_now row ∷ filter t (map row_now (drop (i + 1) rows))) (filter t (map row_now (drop (i + 1) rows)))) e
          ∙ was
      by false e =
          ap (λ rs. map row_now rs ++ filter t (map row_now (drop (i + 1) rows))) (append-nil all)
          ∙ ap (λ b. map row_now all ++ cond b (row_now row ∷ filter t (map row_now (drop (i + 1) rows))) (filter t (map row_now (drop (i + 1) rows)))) e
          ∙ was

  -- one more of those that are found
  pub found_more : {X : Type 0} (g : X → Option (ℕ × Placed)) (x : X) (xs : List X) (o : Option (ℕ × Bor Placed)) → map row_now all ++ filter_map g (x ∷ xs) ≡ goal → option_map row_now o ≡ g x
      → map row_now (all ++ some_row o) ++ filter_map g xs ≡ goal
  found_more g x xs None before is =
      ap (λ rs. map row_now rs ++ filter_map g xs) (append-nil all) ∙ (let was : map row_now all ++ filter_map g xs ≡ goal = rw (sym is) at before in was)
  found_more g x xs (Some row) before is =
      ap (λ rs. rs ++ filter_map g xs) (map-append row_now all (row ∷ []))
      ∙ append_assoc (map row_now all) (row_now row ∷ []) (filter_map g xs)
      ∙ (let was : map row_now all ++ row_now row ∷ filter_map g xs ≡ goal = rw (sym is) at before in was)

-- what is drawn of one more object
pub drawn_more : (p : ProjectData) (all goal : List Coming) (rows : List (ℕ × Bor Placed)) (i : ℕ) (row : ℕ × Bor Placed) → i < length rows → row ≡ get_or rows i row
    → all ++ map come (drawn_in p (map row_now (drop i rows))) ≡ goal
    → (all ++ map come (conductors_at p (row_now row))) ++ map come (drawn_in p (map row_now (drop (i + 1) rows))) ≡ goal
drawn_more p all goal rows i row lt here before =
    append_assoc all (map come (conductors_at p (row_now row))) (map come (drawn_in p (map row_now (drop (i + 1) rows))))
    ∙ ap (λ cs. all ++ cs) (sym (map-append come (conductors_at p (row_now row)) (drawn_in p (map row_now (drop (i + 1) rows)))))
    ∙ sym (ap (λ rs. all ++ map come (drawn_in p rs)) next)
    ∙ before
  where
    next : map row_now (drop i rows) ≡ row_now row ∷ map row_now (drop (i + 1) rows)
    next = ap (map row_now) (drop_more rows i row lt) ∙ ap (λ r. row_now r ∷ map row_now (drop (i + 1) rows)) (sym here)

-- conductors without their shapes
pub shapes_gone : (cs : List SheetConductor) → map without_shape (map come cs) ≡ map leave cs
shapes_gone [] = refl
shapes_gone (c ∷ cs) = ap (◌∷◌ (leave c)) (shapes_gone cs)

-- what is so of an answer, where something else is so on success
pub if_ok_on : {A E Q : Type 0} {P R : A → Type 0} (r : Result A E) → ((x : A) → P x → Q → R x) → IfOk r P → OnOk r Q → IfOk r R
if_ok_on (Ok x) f p q = f x p q
if_ok_on (Err e) f p q = tt

-- the sheet of the next object
pub next_sheet : (rows : List (ℕ × Bor Placed)) (i : ℕ) (row : ℕ × Bor Placed) → i < length rows → row ≡ get_or rows i row
    → sheets_at (map row_now (drop i rows)) ≡ (row.1.now.sheet ∷ []) ++ sheets_at (map row_now (drop (i + 1) rows))
next_sheet rows i row lt here =
    ap (λ rs. sheets_at (map row_now rs)) (drop_more rows i row lt) ∙ ap (λ (r : ℕ × Bor Placed). r.1.now.sheet ∷ sheets_at (map row_now (drop (i + 1) rows))) (sym here)

-- the sheet that the next item names
pub next_named : (items : List Item) (i : ℕ) (item : Item) → i < length items → item ≡ get_or items i item
    → sheets_named (drop i items) ≡ some_row (named_by item.0) ++ sheets_named (drop (i + 1) items)
next_named items i item lt here =
    ap sheets_named (drop_more items i item lt) ∙ ap (λ (x : Item). sheets_named (x ∷ drop (i + 1) items)) (sym here) ∙ by (named_by item.0) refl
  where
    by : (o : Option (List ℕ)) → named_by item.0 ≡ o → sheets_named (item ∷ drop (i + 1) items) ≡ some_row (named_by item.0) ++ sheets_named (drop (i + 1) items)
    by None e = rw e refl
    by (Some name) e = rw e refl

pub on_err_two : {A E P Q R : Type 0} (r : Result A E) → (P → Q → R) → OnErr r P → OnErr r Q → OnErr r R
on_err_two (Ok x) f p q = tt
on_err_two (Err e) f p q = f p q
