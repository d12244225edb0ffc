-- Walks over lists.
use Rattle.std.proofs.Common.{List, ◌++◌, Option, option_map}

-- values that are there already, and those of the rest
abbrev pub with_front : {A : Type 0} → List A → Option (List A) → Option (List A)
with_front front values = option_map (λ others. front ++ others) values
