-- What comes next of a connection (own).
use Rattle.std.specs.Prelude.{◌≡◌, ℕ, ◌⊎◌, List, ◌++◌, Option}
use Rattle.web_heads.specs.declared.cut_end.CutEnd.{CutEnd}
use Rattle.web_heads.specs.declared.next.Next.{Next}
use Rattle.web_heads.specs.declared.next.Next.TheVariants as nexts
use Rattle.web_heads.specs.Accesses.{AccessData}
use Rattle.web_heads.specs.Cuts.{MessageData, IsMessageBy, IsFinal, EndsBy}
use Rattle.web_heads.specs.Links.{with_front, IsAtEnd}

-- no message comes for this reason, now that these bytes came and this is the input behind them
abbrev pub EndsNow : AccessData → Option (List ℕ) → List ℕ → CutEnd → Type 0
EndsNow access after bytes end = EndsBy access bytes end × (IsFinal end ⊎ IsAtEnd after)

-- the bytes begin with no whole message
abbrev pub Waits : AccessData → List ℕ → Type 0
Waits access bytes = (end : CutEnd) × EndsBy access bytes end

-- what these bytes are, with the input behind them: a message and the rest, or why there is none
abbrev pub IsNext :
    AccessData → Option (List ℕ) → List ℕ → MessageData → List ℕ → Next → Type 0
IsNext access after bytes message rest nexts.Message = IsMessageBy access bytes message rest
IsNext access after bytes message rest (nexts.End end) = EndsNow access after bytes end
IsNext access after bytes message rest nexts.Fault = Waits access bytes

-- what comes next of the old bytes and those that were read, however many these are
abbrev pub Nexts :
    AccessData → Option (List ℕ) → Option (List ℕ) → List ℕ → MessageData → List ℕ → Next
    → Type 0
Nexts access before after old message new result =
    (got : List ℕ) × (before ≡ with_front got after)
    × IsNext access after (old ++ got) message new result
