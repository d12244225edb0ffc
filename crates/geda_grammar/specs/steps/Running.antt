-- Steps of the code; no public clause cites them.
-- A machine that takes one thing after the other (own).
use Rattle.std.specs.Prelude.{List, [], ◌∷◌, Option, Some, option_and_then}

-- what follows goes on from what is there, if something is
infixl 10 ◌>>=◌
abbrev pub ◌>>=◌ : {A B : Type 0} → Option A → (A → Option B) → Option B
o >>= f = option_and_then f o

-- the state after all of them
abbrev pub run : {S X : Type 0} → (S → X → Option S) → S → List X → Option S
run step s [] = Some s
run step s (x ∷ xs) = step s x >>= λ t. run step t xs

-- what they end with
abbrev pub outcome : {S X V : Type 0} → (S → X → Option S) → (S → Option V) → S → List X → Option V
outcome step finish s xs = run step s xs >>= finish
