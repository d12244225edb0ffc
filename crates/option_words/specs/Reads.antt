-- What a reader of words gives (own).
use Rattle.std.specs.Prelude.{◌≡◌, ⊤, Option, Some, None, Result, Ok, Err, map, option_map}
use Rattle.option_words.specs.Words.{Parts}
use Rattle.option_words.specs.declared.parts.Parts as parts
use Rattle.option_words.specs.declared.fault.WordFault.{WordFault}
use Rattle.option_words.specs.declared.fault.WordFault.TheVariants as faults

-- parts, as lists of bytes
abbrev pub parts_seen : parts.Parts → Parts
parts_seen p =
    record { value = option_map (λ s. s.now) p.value; words = map (λ s. s.now) p.words.items }

-- words are refused only where nothing is read
abbrev pub Fails : {Y : Type 0} → WordFault → Option Y → Type 0
Fails faults.NoMemory read = ⊤
Fails faults.Usage read = read ≡ None

-- what is read, seen so; `Usage` where nothing is
abbrev pub Gives : {X Y : Type 0} → (X → Y) → Result X WordFault → Option Y → Type 0
Gives view (Ok x) read = read ≡ Some (view x)
Gives view (Err e) read = Fails e read
