-- The path of a sheet in the hierarchy, and printed names of components (own).
use Rattle.std.specs.Prelude.{ℕ, List, [], ◌∷◌, ◌++◌, map}
use Rattle.std.specs.List.{join_with_byte}
use Rattle.hierarchy.specs.declared.way.Step.{Step}

-- the refdes of each step, with `/` between them
abbrev pub path_of : List Step → List ℕ
path_of steps = join_with_byte 47 (map (λ s. s.refdes) steps)

-- a refdes behind its path
abbrev pub printed : List Step → List ℕ → List ℕ
printed steps refdes = join_with_byte 47 (map (λ s. s.refdes) steps ++ refdes ∷ [])
