use Rattle.std.proofs.Common.{map}
use Rattle.sqlite.specs.Held.{state}
use Rattle.edit_json.specs.Rows.{row_text}
use Rattle.sqlite_keeper.specs.Told.{told_rows}
use Rattle.sqlite_keeper.proofs.ToldLemmas.{kept_same, loaded, row_is}
use Rattle.sqlite_keeper.proofs.steps.load_row.Goals as goal

pub returns-in-Ok-clause-kept : goal.returns-in-Ok-clause-kept
returns-in-Ok-clause-kept g c = λ safe kept.
    let old = state g.S.Store c.args.connection.now in
    kept_same old (state g.S.Store c.select.new.connection) kept (c.select.ensures.kept (map row_text (told_rows old)) safe kept)

pub returns-in-Err-clause-kept : goal.returns-in-Err-clause-kept
returns-in-Err-clause-kept g c = λ safe kept.
    let old = state g.S.Store c.args.connection.now in
    kept_same old (state g.S.Store c.select.new.connection) kept (c.select.ensures.kept (map row_text (told_rows old)) safe kept)

pub returns-in-Ok-clause-row : goal.returns-in-Ok-clause-row
returns-in-Ok-clause-row g c = λ safe kept.
    let old = state g.S.Store c.args.connection.now in
    row_is c.read_found.result c.in-Ok.found (λ b. b.items) _ (loaded old c.args.serial _ kept (c.in-Ok.ensures.body (map row_text (told_rows old)) safe kept)) c.read_found.ensures
