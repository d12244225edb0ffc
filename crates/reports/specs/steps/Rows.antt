-- Objects with their ids, as texts (own).
use Rattle.std.specs.Prelude.{ℕ, List}
use Rattle.project_model.specs.declared.change.Placed.{Placed}
use Rattle.geda_grammar.specs.Canonical.{object_text}

-- the text of an object, without its id
abbrev pub row_text : ℕ × Placed → List ℕ
row_text row = object_text row.1.object
