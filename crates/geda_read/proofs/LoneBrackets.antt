-- What a line says that is a bracket alone.
use Rattle.std.proofs.Common.{◌≡◌, ℕ, List, [], ◌∷◌, refl}
use Rattle.geda_text.specs.Lines.{fields_of}
use Rattle.geda_grammar.specs.declared.row.Row.TheVariants as rows
use Rattle.geda_grammar.specs.steps.Reading.{Complete}
use Rattle.geda_grammar.specs.steps.SheetLines.{sheet_line}

pub open_block : (line : List ℕ) (b : ℕ) → line ≡ b ∷ [] → b ≡ 123 → sheet_line line ≡ Complete rows.OpenBlock
unfolding fields_of
open_block line b is bracket = rw (is, bracket) refl

pub close_block : (line : List ℕ) (b : ℕ) → line ≡ b ∷ [] → b ≡ 125 → sheet_line line ≡ Complete rows.CloseBlock
unfolding fields_of
close_block line b is bracket = rw (is, bracket) refl

pub open_symbol : (line : List ℕ) (b : ℕ) → line ≡ b ∷ [] → b ≡ 91 → sheet_line line ≡ Complete rows.OpenSymbol
unfolding fields_of
open_symbol line b is bracket = rw (is, bracket) refl

pub close_symbol : (line : List ℕ) (b : ℕ) → line ≡ b ∷ [] → b ≡ 93 → sheet_line line ≡ Complete rows.CloseSymbol
unfolding fields_of
close_symbol line b is bracket = rw (is, bracket) refl
