use Rattle.std.proofs.Common.{◌≡◌, ◌++◌, drop, map}
use Rattle.spice_out.specs.Cards.{name_byte}
use Rattle.spice_out.proofs.card_names.put_piece.Given as goal

abbrev pub invariant-loop-byte : goal.invariant-loop-byte
invariant-loop-byte l = l.name.items ++ map name_byte (drop l.byte-index l.piece) ≡ l.fn.name.items ++ map name_byte l.piece
