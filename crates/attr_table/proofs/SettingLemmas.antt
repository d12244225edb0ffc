-- The cells that count, and an object after they are set.
use Rattle.std.proofs.Common.{◌≡◌, ◌==◌, ◌∷◌, [], ℕ, suc, Bool, true, false, not, ◌||◌, cond, List, None, Some, filter, length, refl, arith}
use Rattle.std.specs.List.{fold, list_all, list_any}
use Rattle.std.proofs.lemmas.Bool.Decides.{nat_tests}
use Rattle.edit_attr.specs.Attributes.{with_attr}
use Rattle.edit_attr.specs.FirstPoints.{first_point}
use Rattle.geda_model.specs.Sheets.{ObjectData}
use Rattle.attr_table.specs.Cells.{Cell, can_be_set, cell_counts, is_bad_cell, set_cell, set_cells}
use Rattle.attr_table.specs.Filling.{if_counts}
use Rattle.attr_table.specs.TableFaults.{first_column}
use Rattle.attr_table.specs.steps.Places.{texts_set}
use Rattle.attr_table.proofs.CellLemmas.{can_set, first_good, none_bad}

-- one of them counts, where those that count are not none
pub any_counts : {X : Type 0} (p : X → Bool) (xs : List X) → list_any p xs ≡ not (length (filter p xs) == 0)
any_counts p [] = refl
any_counts {X} p (x ∷ xs) = by (p x) (any_counts p xs)
  where
    by : (b : Bool) → list_any p xs ≡ not (length (filter p xs) == 0)
        → (b || list_any p xs) ≡ not (length (cond b (x ∷ filter p xs) (filter p xs)) == 0)
    by true h = let some : (suc (length (filter p xs)) == 0) ≡ false = grind (arith, nat_tests) in rw some refl
    by false h = h

-- where none is bad, those that count can be set
all_good : (o : ObjectData) (cells : List Cell) → list_any (is_bad_cell o) cells ≡ false → list_all can_be_set (filter (cell_counts o) cells) ≡ true
all_good o [] e = refl
all_good o (cell ∷ cells) e =
    let parts = first_good (is_bad_cell o) cell cells e in
    by (cell_counts o cell) refl parts.0 (all_good o cells parts.1)
  where
    by : (b : Bool) → cell_counts o cell ≡ b → is_bad_cell o cell ≡ false → list_all can_be_set (filter (cell_counts o) cells) ≡ true
        → list_all can_be_set (cond b (cell ∷ filter (cell_counts o) cells) (filter (cell_counts o) cells)) ≡ true
    by true is good h = rw (can_set o cell is good) h
    by false is good h = h

pub good_counting : (o : ObjectData) (column : ℕ) (cells : List Cell) → first_column (is_bad_cell o) column cells ≡ None
    → list_all can_be_set (filter (cell_counts o) cells) ≡ true
good_counting o column cells e = all_good o cells (none_bad (is_bad_cell o) column cells e)

-- an object whose texts are those with these cells set
pub object_set : (o : ObjectData) (cells : List Cell)
    → ◌≡◌ {A = ObjectData} (record { body = o.body; attrs = texts_set (first_point o.body) o.attrs cells }) (fold set_cell o cells)
unfolding with_attr
object_set o [] = refl
object_set o (cell ∷ cells) = object_set (set_cell o cell) cells

-- what is made of a component, where a cell counts and where none does
pub made_none : (cells : List Cell) (id : ℕ) (o : ObjectData) → (length (filter (cell_counts o) cells) == 0) ≡ true → if_counts cells id o ≡ None
made_none cells id o e = rw (any_counts (cell_counts o) cells, e) refl

pub made_some : (cells : List Cell) (id : ℕ) (o : ObjectData) → (length (filter (cell_counts o) cells) == 0) ≡ false → if_counts cells id o ≡ Some (id, set_cells o cells)
made_some cells id o e = rw (any_counts (cell_counts o) cells, e) refl
