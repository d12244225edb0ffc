use Rattle.std.proofs.Common.{drop, map}
use Rattle.std.specs.HashSet.{contains_text}
use Rattle.project_model.specs.Tables.{row_now}
use Rattle.board_core.specs.steps.SymbolNames.{KnowsMore}
use Rattle.board_core.proofs.NameLemmas.{IsLearning}
use Rattle.board_core.proofs.symbol_names.learn_rows.Given as goal

-- the names of the objects so far are known, and none was forgotten
abbrev pub invariant-loop-row : goal.invariant-loop-row
invariant-loop-row l =
    IsLearning (contains_text l.names) (map row_now l.rows) (map row_now (drop l.row-index l.rows)) × KnowsMore (contains_text l.fn.names) (contains_text l.names)
