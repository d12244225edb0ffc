use Rattle.std.proofs.Common.{◌≡◌, drop}
use Rattle.edit_move.specs.Objects.{texts_after}
use Rattle.edit_move.proofs.WalkLemmas.{with_front}
use Rattle.edit_move.proofs.texts.texts_after.Given as goal

abbrev pub invariant-loop-text : goal.invariant-loop-text
invariant-loop-text l = with_front l.after (texts_after l.motion (drop l.text-index l.texts)) ≡ texts_after l.motion l.texts
