use Rattle.std.proofs.Common.{◌||◌, ap, is_some, sym, ◌∙◌}
use Rattle.std.specs.FinMap as map
use Rattle.project_model.specs.declared.change.Thing.TheVariants as things
use Rattle.edit_rules.specs.Histories.{is_same_thing}
use Rattle.edit_rules.specs.HomeRows.{home_count}
use Rattle.edit_rules.proofs.RowLemmas.{opened_count, opened_there, or_none}
use Rattle.edit_rules.proofs.rehoming.open_one.Goals as goal

pub returns-in-SheetName-clause-counted : goal.returns-in-SheetName-clause-counted
returns-in-SheetName-clause-counted c = λ n.
    ap (λ m. home_count (map.get m n)) c.open.ensures.rows ∙ opened_count c.args.homes.now.rows c.in-SheetName.name n

pub returns-in-SheetName-clause-there : goal.returns-in-SheetName-clause-there
returns-in-SheetName-clause-there c = λ n.
    ap (λ m. is_some (map.get m n)) c.open.ensures.rows
    ∙ opened_there c.args.homes.now.rows c.in-SheetName.name n
    ∙ ap (λ t. is_some (map.get c.args.homes.now.rows n) || is_same_thing (things.SheetName n) t) (sym c.in-SheetName.is)

pub returns-in-Object-clause-there : goal.returns-in-Object-clause-there
returns-in-Object-clause-there c = λ n.
    or_none (is_some (map.get c.args.homes.now.rows n))
    ∙ ap (λ t. is_some (map.get c.args.homes.now.rows n) || is_same_thing (things.SheetName n) t) (sym c.in-Object.is)

pub returns-in-SymbolName-clause-there : goal.returns-in-SymbolName-clause-there
returns-in-SymbolName-clause-there c = λ n.
    or_none (is_some (map.get c.args.homes.now.rows n))
    ∙ ap (λ t. is_some (map.get c.args.homes.now.rows n) || is_same_thing (things.SheetName n) t) (sym c.in-SymbolName.is)
