-- The nets that join pins, one net after the other.
use Rattle.std.proofs.Common.{◌≡◌, refl, ℕ, Bool, true, false, List, [], ◌∷◌, ◌++◌, if◌then◌else◌}
use Rattle.std.specs.List.{flat_map}
use Rattle.net_list.specs.declared.nets.Net.{Net}
use Rattle.backends.specs.Joined.{is_joined, joined_nets}

-- the first net adds its text, if it joins pins
pub with_first_net : (text : Net → List ℕ) (n : Net) (rest : List Net) → flat_map text (joined_nets (n ∷ rest)) ≡ (if is_joined n then text n else []) ++ flat_map text (joined_nets rest)
with_first_net text n rest = go (is_joined n)
  where
    go : (t : Bool) → flat_map text (if t then n ∷ joined_nets rest else joined_nets rest) ≡ (if t then text n else []) ++ flat_map text (joined_nets rest)
    go true = refl
    go false = refl
