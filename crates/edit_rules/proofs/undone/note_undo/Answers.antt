use Rattle.std.proofs.Common.{sym, ap, ◌∙◌, cond, Some}
use Rattle.std.specs.FinMap as map
use Rattle.edit_rules.specs.Naming.{undoes}
use Rattle.edit_rules.proofs.Noting.{get_put}
use Rattle.edit_rules.proofs.undone.note_undo.Goals as goal

pub returns-in-Undo-clause-rows : goal.returns-in-Undo-clause-rows
returns-in-Undo-clause-rows c = λ k.
    ap (λ m. map.get m k) c.set.ensures.rows
    ∙ get_put c.args.undone.now.rows c.in-Undo.serial c.args.by k
    ∙ ap (λ e. cond (undoes k e) (Some c.args.by) (map.get c.args.undone.now.rows k)) (sym c.in-Undo.is)
