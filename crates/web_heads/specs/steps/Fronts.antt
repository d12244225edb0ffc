-- Messages that are taken, and what is left.
use Rattle.std.specs.Prelude.{◌≡◌, ℕ, false, List, [], ◌∷◌}
use Rattle.web_heads.specs.Accesses.{AccessData}
use Rattle.web_heads.specs.Cuts.{MessageData, IsMessageBy}

-- the bytes begin with these messages, none of which says close, and then there is the rest
abbrev pub Front : AccessData → List ℕ → List MessageData → List ℕ → Type 0
Front access bytes [] rest = bytes ≡ rest
Front access bytes (message ∷ messages) rest =
    (next : List ℕ) × IsMessageBy access bytes message next × (message.closing ≡ false)
    × Front access next messages rest
