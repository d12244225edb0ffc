use Rattle.std.proofs.Common.{take}
use Rattle.std.specs.HashSet.{contains_text}
use Rattle.board_core.specs.steps.SymbolNames.{HasNoneKnown}
use Rattle.board_core.proofs.symbol_names.has_any.Given as goal

-- none so far is a symbol of such a name
abbrev pub invariant-loop-item : goal.invariant-loop-item
invariant-loop-item l = HasNoneKnown (contains_text l.names) (take l.item-index l.items)
