use Rattle.std.proofs.Common.{◌≡◌, drop, length}
use Rattle.edit_move.specs.Objects.{parts_after}
use Rattle.edit_move.proofs.WalkLemmas.{with_front}
use Rattle.edit_move.proofs.shapes.parts_after.Given as goal

abbrev pub invariant-loop-part : goal.invariant-loop-part
invariant-loop-part l = record {
  front : with_front l.after (parts_after l.motion (drop l.part-index l.parts)) ≡ parts_after l.motion l.parts;
  count : length l.after ≡ l.part-index;
}
