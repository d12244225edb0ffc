-- Texts as they print in an instance (own).
use Rattle.std.specs.Prelude.{ℕ, List, [], ◌∷◌, ◌++◌}

-- a text as it prints in an instance: the path of a sheet below comes before it
abbrev pub under : List ℕ → List ℕ → List ℕ
under [] text = text
under (b ∷ bs) text = b ∷ bs ++ 47 ∷ text
