-- The file of a matrix: a TOML document with the one key `rows`, twelve texts of levels.
use Rattle.std.specs.Prelude.{ℕ, ◌==◌, ◌+◌, ◌&&◌, ⊤, ◌≡◌, if◌then◌else◌, List, [], ◌∷◌, ◌++◌, Option, Some, None, Result, Ok, Err, length, codes, nat_le, option_and_then, option_map}
use Rattle.std.specs.Str.{is_utf8}
use Rattle.toml.specs.Data.{Data, Items, Members, as_array, as_str, get_member, item, member, no_items, no_members}
use Rattle.toml.specs.Parse.{parse_document}
use Rattle.pin_matrix.specs.declared.level.Level.{Level}
use Rattle.pin_matrix.specs.declared.fault.MatrixFault.{MatrixFault}
use Rattle.pin_matrix.specs.declared.fault.MatrixFault.TheVariants as fault
use Rattle.pin_matrix.specs.Matrices.{level_of}

-- the levels of these letters; none where one is no level
abbrev pub levels_of : List ℕ → Option (List Level)
levels_of [] = Some []
levels_of (b ∷ rest) =
    option_and_then (λ level. option_map (λ more. level ∷ more) (levels_of rest)) (level_of b)

-- a row: a text of so many levels
abbrev pub levels_row : ℕ → Data → Option (List Level)
levels_row want row =
    option_and_then (λ text. if length text == want then levels_of text else None) (as_str row)

-- the rows of a lower triangle from the one with `want` levels on, to the one with twelve
unfoldable pub rows_from : ℕ → Items → Option (List Level)
rows_from want no_items = if want == 13 then Some [] else None
rows_from want (item row rest) =
    option_and_then (λ first. option_map (λ more. first ++ more) (rows_from (want + 1) rest))
    (levels_row want row)

-- how many keys a document has
abbrev pub count_of : Members → ℕ
count_of no_members = 0
count_of (member key value rest) = count_of rest + 1

-- the levels of all rows, where a value is a list of them
abbrev pub rows_in : Data → Option (List Level)
rows_in value = option_and_then (rows_from 1) (as_array value)

-- the matrix in a document, row by row
abbrev pub matrix_in : Members → Option (List Level)
matrix_in members =
    if count_of members == 1 then option_and_then rows_in (get_member (codes "rows") members)
    else None

-- the document that the bytes are: at most 4 MiB of UTF-8 that toml reads
abbrev pub toml_document : List ℕ → Option Members
toml_document text =
    if nat_le (length text) 4194304 && is_utf8 text then parse_document text else None

-- what a reader gives, and why it fails
abbrev pub MatrixFails : Option Members → MatrixFault → Type 0
MatrixFails document fault.BadToml = document ≡ None
MatrixFails None fault.BadRows = ⊥
MatrixFails (Some members) fault.BadRows = matrix_in members ≡ None
MatrixFails document fault.NoMemory = ⊤

-- the matrix, or why there is none
abbrev pub ReadsMatrix :
    {X : Type 0} → (X → List Level) → Option Members → Result X MatrixFault → Type 0
ReadsMatrix view document (Ok matrix) = option_and_then matrix_in document ≡ Some (view matrix)
ReadsMatrix view document (Err e) = MatrixFails document e
