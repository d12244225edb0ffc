use Rattle.std.proofs.Common.{sym, ap, ◌∙◌, cond, Some}
use Rattle.edit_rules.specs.Histories.{is_same_thing}
use Rattle.edit_rules.proofs.Noting.{touch_object, touch_sheet, touch_symbol}
use Rattle.edit_rules.specs.TouchRows.{touch_in}
use Rattle.edit_rules.proofs.touches.Touches.put.Goals as goal

pub returns-in-Object-clause-rows : goal.returns-in-Object-clause-rows
returns-in-Object-clause-rows c = λ t.
    ap (λ m. touch_in (record { objects = m; sheets = c.self.inside.sheets.rows; symbols = c.self.inside.symbols.rows }) t) c.set.ensures.rows
    ∙ touch_object c.self.inside.objects.rows c.self.inside.sheets.rows c.self.inside.symbols.rows c.in-Object.id c.args.serial t
    ∙ ap
    (λ d. cond (is_same_thing t d) (Some c.args.serial) (touch_in (record { objects = c.self.inside.objects.rows; sheets = c.self.inside.sheets.rows; symbols = c.self.inside.symbols.rows }) t))
    (sym c.in-Object.is)
    ∙ ap (λ d. cond (is_same_thing t c.args.thing.now) (Some c.args.serial) (touch_in d.rows t)) c.self.view_is

pub returns-in-SheetName-clause-rows : goal.returns-in-SheetName-clause-rows
returns-in-SheetName-clause-rows c = λ t.
    ap (λ m. touch_in (record { objects = c.self.inside.objects.rows; sheets = m; symbols = c.self.inside.symbols.rows }) t) c.set-in-SheetName.ensures.rows
    ∙ touch_sheet c.self.inside.objects.rows c.self.inside.sheets.rows c.self.inside.symbols.rows c.in-SheetName.name c.args.serial t
    ∙ ap
    (λ d. cond (is_same_thing t d) (Some c.args.serial) (touch_in (record { objects = c.self.inside.objects.rows; sheets = c.self.inside.sheets.rows; symbols = c.self.inside.symbols.rows }) t))
    (sym c.in-SheetName.is)
    ∙ ap (λ d. cond (is_same_thing t c.args.thing.now) (Some c.args.serial) (touch_in d.rows t)) c.self.view_is

pub returns-in-SymbolName-clause-rows : goal.returns-in-SymbolName-clause-rows
returns-in-SymbolName-clause-rows c = λ t.
    ap (λ m. touch_in (record { objects = c.self.inside.objects.rows; sheets = c.self.inside.sheets.rows; symbols = m }) t) c.set-in-SymbolName.ensures.rows
    ∙ touch_symbol c.self.inside.objects.rows c.self.inside.sheets.rows c.self.inside.symbols.rows c.in-SymbolName.name c.args.serial t
    ∙ ap
    (λ d. cond (is_same_thing t d) (Some c.args.serial) (touch_in (record { objects = c.self.inside.objects.rows; sheets = c.self.inside.sheets.rows; symbols = c.self.inside.symbols.rows }) t))
    (sym c.in-SymbolName.is)
    ∙ ap (λ d. cond (is_same_thing t c.args.thing.now) (Some c.args.serial) (touch_in d.rows t)) c.self.view_is
