-- What a file of a folder comes to: what its bytes spell, or a fault (own).
use Rattle.std.specs.Prelude.{◌≡◌, ◌⊎◌, ℕ, List, Result, Ok, Err, Some, None}
use Rattle.std.specs.declared.option.Option.{Option}
use Rattle.geda_grammar.specs.declared.kind.ReadKind.{ReadKind}
use Rattle.geda_grammar.specs.Spelling.{Spells}
use Rattle.geda_grammar.specs.Faults.{FileKind, IsFault}
use Rattle.project_files.specs.declared.fault.FileFault.{FileFault}

-- what a file of a folder comes to, given what its bytes come to; there may be no such file, which
-- is then the fault that is missing
abbrev pub FileComesTo : {A E : Type 0} → E → (List ℕ → Result A E → Type 0) →
    Option (List ℕ) → Result A E → Type 0
FileComesTo missing BytesComeTo None outcome = outcome ≡ Err missing
FileComesTo missing BytesComeTo (Some bytes) outcome = BytesComeTo bytes outcome

-- what bytes of a kind of file come to, given what the values come to that such bytes spell; bytes
-- that spell none have a fault, which makes the fault of its line and kind
abbrev pub ReadAs : {V A E : Type 0} → FileKind V → (ℕ → ReadKind → E) →
    (V → Result A E → Type 0) → List ℕ → Result A E → Type 0
ReadAs {V = V} file refused ComesTo bytes outcome =
    ((value : V) × Spells file.Spell bytes value × ComesTo value outcome)
    ⊎ ((line : ℕ) × (kind : ReadKind) × IsFault file bytes kind line
    × (outcome ≡ Err (refused line kind)))

-- a value is what was read
abbrev pub WasRead : {A : Type 0} → A → Result A FileFault → Type 0
WasRead value read = read ≡ Ok value

-- what comes after something that may be a fault: a fault is what it all comes to
abbrev pub Then : {A B E : Type 0} →
    Result A E → (A → Result B E → Type 0) → Result B E → Type 0
Then (Ok a) Next outcome = Next a outcome
Then (Err fault) Next outcome = outcome ≡ Err fault
