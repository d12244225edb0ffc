use Rattle.engine_board.specs.Holds.{HoldsBoard}
use Rattle.engine_cases.proofs.owners.put_words.Given as goal

abbrev pub invariant-loop-word : goal.invariant-loop-word
invariant-loop-word l = HoldsBoard l.hold l.engine
