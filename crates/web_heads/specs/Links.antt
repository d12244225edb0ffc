-- What a link tells: the input that is left and the output that was written, each optional (own).
use Rattle.std.specs.Prelude.{◌≡◌, ℕ, ◌≤◌, ◌<◌, List, [], ◌++◌, length, take, Option, option_map, IfSome, Result, Ok, Err}

-- the told bytes with these before them
abbrev pub with_front : List ℕ → Option (List ℕ) → Option (List ℕ)
with_front front told = option_map (λ bytes. front ++ bytes) told

-- the told bytes with these behind them
abbrev pub with_end : List ℕ → Option (List ℕ) → Option (List ℕ)
with_end piece told = option_map (λ bytes. bytes ++ piece) told

-- where the input is told, nothing of it is left
abbrev pub IsAtEnd : Option (List ℕ) → Type 0
IsAtEnd told = IfSome told (λ left. left ≡ [])

-- the second list begins with the first
abbrev pub IsPrefixOf : {A : Type 0} → List A → List A → Type 0
IsPrefixOf {A} front all = (rest : List A) × (all ≡ front ++ rest)

-- After a read into this room: so many bytes of the input stand at the front of the room, none into
-- room that is not empty only at the end of the input. A read that fails takes nothing.
abbrev pub Reads : {E : Type 0} →
    Option (List ℕ) → Option (List ℕ) → List ℕ → List ℕ → Result ℕ E → Type 0
Reads before after old new (Ok n) =
    (n ≤ length old)
    × (before ≡ with_front (take n new) after)
    × (n ≡ 0 → 0 < length old → IsAtEnd after)
Reads before after old new (Err e) = after ≡ before

-- After a write of this piece: it has gone out. Of one that fails a prefix has.
abbrev pub Writes : {T E : Type 0} →
    Option (List ℕ) → Option (List ℕ) → List ℕ → Result T E → Type 0
Writes before after piece (Ok x) = after ≡ with_end piece before
Writes before after piece (Err e) =
    (front : List ℕ) × IsPrefixOf front piece × (after ≡ with_end front before)
