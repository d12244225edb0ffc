-- What a reader answers (own). Memory may run out; nothing else is free.
use Rattle.std.specs.Prelude.{◌≡◌, ◌⊎◌, ℕ, List, Result, Ok, Err}
use Rattle.geda_grammar.specs.declared.kind.ReadKind.{ReadKind}
use Rattle.geda_grammar.specs.Spelling.{Spells}
use Rattle.geda_grammar.specs.Faults.{FileKind, IsFault}
use Rattle.geda_read.specs.declared.fault.ReadFault.{ReadFault}
use Rattle.geda_read.specs.declared.fault.ReadFault.TheVariants.{At, NoMemory}

-- this is answered, or memory ran out
abbrev pub OrNoMemory : {V : Type 0} → Result V ReadFault → Result V ReadFault → Type 0
OrNoMemory result wanted = (result ≡ wanted) ⊎ (result ≡ Err NoMemory)

-- the bytes spell what is found
abbrev pub Found : {V : Type 0} → FileKind V → List ℕ → Result V ReadFault → Type 0
Found {V = V} file bytes result = (v : V) → result ≡ Ok v → Spells file.Spell bytes v

-- what the bytes spell is found
abbrev pub FoundAlways : {V : Type 0} → FileKind V → List ℕ → Result V ReadFault → Type 0
FoundAlways {V = V} file bytes result =
    (v : V) → Spells file.Spell bytes v → OrNoMemory result (Ok v)

-- the bytes have the fault that is told
abbrev pub Told : {V : Type 0} → FileKind V → List ℕ → Result V ReadFault → Type 0
Told file bytes result =
    (kind : ReadKind) (line : ℕ) → result ≡ Err (At kind line) → IsFault file bytes kind line

-- the fault that the bytes have is told
abbrev pub ToldAlways : {V : Type 0} → FileKind V → List ℕ → Result V ReadFault → Type 0
ToldAlways file bytes result =
    (kind : ReadKind) (line : ℕ) → IsFault file bytes kind line →
    OrNoMemory result (Err (At kind line))
