use Rattle.std.proofs.Common.{◌≡◌, ◌++◌, ◌∷◌, [], length, rules}
use Rattle.spice_out.proofs.PieceLemmas.{card_name_is, no_name}
use Rattle.spice_out.proofs.card_names.card_name.Goals as goal
use Rattle.spice_out.proofs.card_names.card_name.Goals.{in-Some+in_ok-put_piece+in_ok-put_earlier, in_default}

pub returns : goal.returns
returns c = elim c.match-split_last.branch [
  | in-Some+in_ok-put_piece+in_ok-put_earlier w ↦
      let cut : c.in_ok-pieces.pieces.items ≡ w.in-Some.earlier.now ++ w.in-Some.last.now ∷ [] = search rules in
      rw (w.name-is, w.in_ok-put_earlier.ensures, w.in_ok-put_piece.ensures, c.new-name.ensures.items)
      (card_name_is c.args.refdes.now c.in_ok-pieces.pieces.items w.in-Some.earlier.now w.in-Some.last.now c.in_ok-pieces.ensures cut)
  | in_default w ↦
      let none : length c.in_ok-pieces.pieces.items ≡ 0 = search rules in
      rw (w.name-is, c.new-name.ensures.items) (no_name c.args.refdes.now c.in_ok-pieces.pieces.items c.in_ok-pieces.ensures none)
]
