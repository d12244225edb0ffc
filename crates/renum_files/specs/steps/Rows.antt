-- Steps of the code; no public clause cites them.
-- Objects with their ids, by their texts (own).
use Rattle.std.specs.Prelude.{ℕ, List, length}
use Rattle.project_model.specs.declared.change.Placed.{Placed}
use Rattle.geda_grammar.specs.Canonical.{object_text}

-- the text of an object, without its id
abbrev pub row_text : ℕ × Placed → List ℕ
row_text row = object_text row.1.object

-- the bytes of it
abbrev pub row_bytes : ℕ × Placed → ℕ
row_bytes row = length (row_text row)
