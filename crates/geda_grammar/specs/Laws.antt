-- What holds of a kind of file (own).
use Rattle.std.specs.Prelude.{◌≡◌, ◌⊎◌, ℕ, List}
use Rattle.geda_grammar.specs.declared.kind.ReadKind.{ReadKind}
use Rattle.geda_grammar.specs.Spelling.{Spells}
use Rattle.geda_grammar.specs.Faults.{FileKind, IsFault}

-- bytes spell one value or have one fault: never two, never both, never neither
pub record IsDetermined {V : Type 0} (file : FileKind V) : Type 0 where
  pub one : (bytes : List ℕ) (v w : V) →
      Spells file.Spell bytes v → Spells file.Spell bytes w → v ≡ w
  pub one_fault : (bytes : List ℕ) (kind other : ReadKind) (line number : ℕ) →
      IsFault file bytes kind line → IsFault file bytes other number →
      (kind ≡ other) × (line ≡ number)
  pub never_both : (bytes : List ℕ) (v : V) (kind : ReadKind) (line : ℕ) →
      Spells file.Spell bytes v → ¬ (IsFault file bytes kind line)
  pub one_of_both : (bytes : List ℕ) →
      ((v : V) × Spells file.Spell bytes v) ⊎
      ((kind : ReadKind) × (line : ℕ) × IsFault file bytes kind line)

-- bytes spell this value, and no other
pub record SpellsAlone {V : Type 0} (file : FileKind V) (bytes : List ℕ) (v : V) : Type 0 where
  pub spelled : Spells file.Spell bytes v
  pub alone : (w : V) → Spells file.Spell bytes w → w ≡ v
