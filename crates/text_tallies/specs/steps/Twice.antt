-- Steps of the code; no public clause cites them.
-- Whether two members of a list pass a test, member by member.
use Rattle.std.specs.Prelude.{Bool, ◌&&◌, ◌||◌, List, [], ◌∷◌}

-- whether a test was passed twice, after more members
abbrev pub twice_after : {A : Type 0} → Bool → Bool → (A → Bool) → List A → Bool
twice_after seen twice p [] = twice
twice_after seen twice p (x ∷ xs) = twice_after (seen || p x) (twice || (seen && p x)) p xs
