-- What is known beside the contents of a project of files (own).
use Rattle.std.specs.Prelude.{ℕ, IsSome, length}
use Rattle.std.specs.FinMap.{get, values}
use Rattle.std.specs.List.{sum_by}
use Rattle.geda_model.specs.Sheets.{SymbolData}
use Rattle.geda_grammar.specs.Canonical.{symbol_text}
use Rattle.project_model.specs.Changes.{IsIdInRange}
use Rattle.project_model.specs.Projects.{ProjectData}
use Rattle.project_model.specs.declared.change.Thing.TheVariants as things

-- the bytes of the canonical text of a symbol
abbrev pub text_bytes : SymbolData → ℕ
text_bytes symbol = length (symbol_text symbol)

-- the bytes of the canonical texts of all symbols
abbrev pub symbols_text : ProjectData → ℕ
symbols_text p = sum_by text_bytes (values p.symbols)

-- the id of each object leaves room for the next one
abbrev pub LeavesIds : ProjectData → Type 0
LeavesIds p = (id : ℕ) → IsSome (get p.objects id) → IsIdInRange (things.Object id)
