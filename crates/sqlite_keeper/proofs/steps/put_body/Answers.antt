use Rattle.std.proofs.lemmas.List.{length-map}
use Rattle.std.proofs.Common.{map, sym, ◌∙◌}
use Rattle.sqlite.specs.Held.{state}
use Rattle.edit_json.specs.Rows.{row_text}
use Rattle.sqlite_keeper.specs.Told.{told_rows}
use Rattle.sqlite_keeper.proofs.ToldLemmas.{kept_more, kept_same}
use Rattle.sqlite_keeper.proofs.steps.put_body.Goals as goal

pub returns-in-Ok : goal.returns-in-Ok
returns-in-Ok g c = λ entry row safe kept is.
    let old = state g.S.Store c.args.connection.now in
    let new = state g.S.Store c.insert.new.connection in
    kept_more old new c.args.body.now entry kept row (c.in-Ok.ensures (map row_text (told_rows old)) safe kept (is ∙ sym (length-map (told_rows old) row_text)))

pub returns-in-Err : goal.returns-in-Err
returns-in-Err g c = λ entry row safe kept is.
    let old = state g.S.Store c.args.connection.now in
    let new = state g.S.Store c.insert.new.connection in
    kept_same old new kept (c.in-Err.ensures (map row_text (told_rows old)) safe kept (is ∙ sym (length-map (told_rows old) row_text)))
