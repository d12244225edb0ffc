use Rattle.std.proofs.Common.{◌≡◌, ◌++◌, ◌∷◌, drop, map}
use Rattle.std.specs.List.{flat_map}
use Rattle.spice_out.specs.Cards.{name_byte}
use Rattle.spice_out.specs.steps.CardNames.{seen}
use Rattle.spice_out.proofs.card_names.put_earlier.Given as goal

abbrev pub invariant-loop-piece : goal.invariant-loop-piece
invariant-loop-piece l =
    l.name.items ++ flat_map (λ piece. 95 ∷ map name_byte piece) (seen (drop l.piece-index l.pieces))
    ≡ l.fn.name.items ++ flat_map (λ piece. 95 ∷ map name_byte piece) (seen l.pieces)
