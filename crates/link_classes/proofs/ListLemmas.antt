-- Conductors and their rows, and a conductor for where a list has none.
use Rattle.std.proofs.Common.{◌≡◌, ℕ, ◌+◌, ◌<◌, false, List, [], ◌∷◌, ◌++◌, None, length, get_or, map, take, refl, sym, ap, ◌∙◌}
use Rattle.std.proofs.lemmas.List.{append_assoc, get_or-map, length-map, take_more}
use Rattle.flat_rows.specs.Conductors.{FlatConductor}
use Rattle.flat_rows.specs.Rows.{row_of}
use Rattle.flat_rows.specs.declared.rows.FlatRow.{FlatRow}

-- a conductor that stands where a list has none
abbrev pub no_conductor : FlatConductor
no_conductor = record { instance = 0; key = record { id = 0; place = 0 }; shape = None; global_names = []; drawn_names = []; member = None; leads_down = None; leads_up = None; directive = false }

-- there is a row for each conductor
pub rows_length : (rows : List FlatRow) (cs : List FlatConductor) → rows ≡ map row_of cs → length rows ≡ length cs
rows_length rows cs is = rw (is, length-map) refl

-- a row is that of the conductor at its place
pub row_is : (rows : List FlatRow) (cs : List FlatConductor) (place : ℕ) → rows ≡ map row_of cs → place < length cs
    → get_or rows place (row_of no_conductor) ≡ row_of (get_or cs place no_conductor)
row_is rows cs place same lt =
    ap (λ (rs : List FlatRow). get_or rs place (row_of no_conductor)) same ∙ get_or-map row_of cs place no_conductor (row_of no_conductor) lt

-- one more of a list is taken
pub taken_next : {A : Type 0} (before xs : List A) (k : ℕ) (x : A) → k < length xs → x ≡ get_or xs k x → (before ++ take k xs) ++ x ∷ [] ≡ before ++ take (k + 1) xs
taken_next {A} before xs k x lt is =
    append_assoc before (take k xs) (x ∷ [])
    ∙ ap (λ (ys : List A). before ++ ys) (sym (take_more xs k x lt ∙ ap (λ (y : A). take k xs ++ y ∷ []) (sym is)))
