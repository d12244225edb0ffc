-- Library symbols that were met, by their names (own).
use Rattle.std.specs.Prelude.{◌≡◌, ℕ, cond, List, Option, None, Some}
use Rattle.std.specs.List.{filter_map}
use Rattle.std.specs.Str.{bytes_eq}
use Rattle.geda_model.specs.Sheets.{SymbolData}
use Rattle.project_model.specs.Projects.{ProjectData}
use Rattle.attr_rules.specs.Attributes.{free_text}
use Rattle.attr_rules.specs.FirstValues.{first_values}
use Rattle.attr_rules.specs.Libraries.{symbol_named}

-- the first `source` that stands free in a symbol, if there is one
abbrev pub source_in : Option SymbolData → Option (List ℕ)
source_in None = None
source_in (Some symbol) = (first_values (filter_map free_text symbol.parts)).source

-- each that was met is the symbol of its name in the project, or none where there is none
abbrev pub AreMet : ProjectData → (List ℕ → Option (Option SymbolData)) → Type 0
AreMet p rows =
    (name : List ℕ) (symbol : Option SymbolData) → rows name ≡ Some symbol
    → symbol ≡ symbol_named p name

-- one more name was met
abbrev pub MeetsSymbol : List ℕ → Option SymbolData → (List ℕ → Option (Option SymbolData))
    → (List ℕ → Option (Option SymbolData)) → Type 0
MeetsSymbol name symbol old new =
    (q : List ℕ) → new q ≡ cond (bytes_eq name q) (Some symbol) (old q)
