use Rattle.std.proofs.Common.{drop}
use Rattle.board_core.specs.steps.Kept.{sheets_named}
use Rattle.board_core.proofs.RenewLemmas.{IsRenewing}
use Rattle.board_core.proofs.renewing.renew_named.Given as goal

abbrev pub invariant-loop-item : goal.invariant-loop-item
invariant-loop-item l = IsRenewing l.project.contents l.fn.groups.rows l.groups.rows l.fn.groups.steps l.groups.steps
    (sheets_named l.items) (sheets_named (drop l.item-index l.items))
