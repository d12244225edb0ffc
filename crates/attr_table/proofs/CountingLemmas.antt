-- The cells of a record, one after the other.
use Rattle.std.proofs.Common.{◌≡◌, ◌∙◌, ◌<◌, ◌≤◌, ◌+◌, ◌++◌, ◌∷◌, [], ℕ, suc, List, Bool, false, refl, sym, ap, arith, drop, filter, get_or, length, zip, append_assoc}
use Rattle.std.proofs.lemmas.List.{drop_all, drop_more}
use Rattle.std.proofs.lemmas.List.Elements.{filter-append}
use Rattle.attr_table.specs.Cells.{Cell}
use Rattle.attr_table.specs.Records.{Record}
use Rattle.attr_table.specs.TableFaults.{first_column}

-- the cells from a column on, of which so many stand before
abbrev pub cells_from : ℕ → List (List ℕ) → Record → List Cell
cells_from i names fields = zip (drop i names) (drop (i + 1) fields)

pub next_cell : (i : ℕ) (names : List (List ℕ)) (fields : Record) → i < length names → length fields ≡ length names + 1
    → cells_from i names fields ≡ (get_or names i [], get_or fields (i + 1) []) ∷ cells_from (i + 1) names fields
next_cell i names fields within width =
    let later : i + 1 < length fields = omega (arith, width, within) in
    rw (drop_more names i [] within, drop_more fields (i + 1) [] later) refl

pub no_cell : (i : ℕ) (names : List (List ℕ)) (fields : Record) → length names ≤ i → cells_from i names fields ≡ []
no_cell i names fields all = rw (drop_all i names all) refl

-- what counts of one cell stands behind what counts of those before
pub counts_next : {X : Type 0} (p : X → Bool) (before after : List X) (x : X) (rest all : List X) → after ≡ before ++ filter p (x ∷ [])
    → before ++ filter p (x ∷ rest) ≡ filter p all → after ++ filter p rest ≡ filter p all
counts_next {X} p before after x rest all e h =
    ap (λ (xs : List X). xs ++ filter p rest) e
    ∙ append_assoc before (filter p (x ∷ [])) (filter p rest)
    ∙ ap (λ (xs : List X). before ++ xs) (sym (filter-append p (x ∷ []) rest))
    ∙ h

-- a member that is not bad is passed over
pub column_next : {X : Type 0} (bad : X → Bool) (i : ℕ) (x : X) (rest : List X) → bad x ≡ false → first_column bad (i + 1 + 2) rest ≡ first_column bad (i + 2) (x ∷ rest)
column_next bad i x rest good = let more : i + 1 + 2 ≡ suc (i + 2) = omega arith in rw (good, more) refl
