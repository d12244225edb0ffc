-- What went to a stream in a run (own).
use Rattle.std.specs.Prelude.{◌≡◌, ℕ, List, ◌++◌, Some, None, ⊤, take}
use Rattle.std.specs.declared.option.Option.{Option}
use Rattle.outside.specs.Counts.{Counts, Failed}

-- what a stream holds, where it tells it, and how often it failed, before a run and after it
pub record Stream : Type 0 where
  pub old : Option (List ℕ)
  pub new : Option (List ℕ)
  pub faults : Counts

-- the three, from what was told before and after
abbrev pub stream : Option (List ℕ) → Option (List ℕ) → Counts → Stream
stream old new faults = record { old = old; new = new; faults = faults }

-- nothing went to the stream
abbrev pub IsQuiet : Stream → Type 0
IsQuiet stream = stream.new ≡ stream.old

-- where the contents are told, the text came last
abbrev pub HoldsAfter : Option (List ℕ) → Option (List ℕ) → List ℕ → Type 0
HoldsAfter None new text = ⊤
HoldsAfter (Some old) None text = ⊥
HoldsAfter (Some old) (Some new) text = new ≡ old ++ text

-- the whole text went to the stream
abbrev pub WroteWhole : Stream → List ℕ → Type 0
WroteWhole stream text = HoldsAfter stream.old stream.new text

-- the stream failed, and some first bytes of the text went to it
abbrev pub WrotePrefix : Stream → List ℕ → Type 0
WrotePrefix stream text =
    Failed stream.faults × ((n : ℕ) × HoldsAfter stream.old stream.new (take n text))
