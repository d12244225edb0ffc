-- Keys of conductors with the places of these (own).
use Rattle.std.specs.Prelude.{ℕ, ◌+◌, List, [], ◌∷◌, ◌++◌, map}

-- a key and the place of a conductor that has it
abbrev pub Keyed : Type 0 → Type 0
Keyed K = K × ℕ

-- keys of a conductor, with its place
abbrev pub keyed_at : {K : Type 0} → ℕ → List K → List (Keyed K)
keyed_at place keys = map (λ key. (key, place)) keys

-- the keys of conductors, of which the first has this place
abbrev pub keyed_from : {C K : Type 0} → (C → List K) → ℕ → List C → List (Keyed K)
keyed_from keys place [] = []
keyed_from keys place (c ∷ cs) = keyed_at place (keys c) ++ keyed_from keys (place + 1) cs
