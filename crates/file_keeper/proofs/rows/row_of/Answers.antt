use Rattle.std.proofs.Common.{Some, ap}
use Rattle.std.proofs.lemmas.Result.{err_from_is_err_and}
use Rattle.file_keeper.proofs.RowLaws.{no_entry, no_row, none_found, part_found, row_unread, same_fault, text_of_row}
use Rattle.file_keeper.proofs.rows.row_of.Goals as goal

pub returns-in_err-entry_of-in-Ok-Some-clause-row :
    goal.returns-in_err-entry_of-in-Ok-Some-clause-row
returns-in_err-entry_of-in-Ok-Some-clause-row c =
    let found = c.in-Ok-Some in
    let read = c.in_err-entry_of-in-Ok-Some in
    let left = c.from_residual in
    let p = err_from_is_err_and left.result left.ensures.1 in
    rw (p.1, p.2) (row_unread c.args.bytes.now c.in-Some.text.now c.in-Ok-Some.row.now
    read.field-0.0 c.in-Some.ensures (part_found found.field-0 (λ row. row.now) c.in-Some.text.now found.row
    found.field-0-is found.ensures) read.ensures.read)

pub returns-in_err-entry_of-in-Ok-Some-clause-every :
    goal.returns-in_err-entry_of-in-Ok-Some-clause-every
returns-in_err-entry_of-in-Ok-Some-clause-every c = λ entry row.
    let found = c.in-Ok-Some in
    let read = c.in_err-entry_of-in-Ok-Some in
    let left = c.from_residual in
    let p = err_from_is_err_and left.result left.ensures.1 in
    let has = text_of_row c.args.bytes.now c.in-Some.text.now c.in-Ok-Some.row.now entry
    c.in-Some.ensures (part_found found.field-0 (λ row. row.now) c.in-Some.text.now found.row
    found.field-0-is found.ensures) row in
    rw (p.1, p.2) (same_fault entry (Some entry) read.field-0.0 (read.ensures.every entry has))

pub returns-in_ok-entry_of-in-Ok-Some-clause-every :
    goal.returns-in_ok-entry_of-in-Ok-Some-clause-every
returns-in_ok-entry_of-in-Ok-Some-clause-every c = λ entry row.
    let found = c.in-Ok-Some in
    let has = text_of_row c.args.bytes.now c.in-Some.text.now c.in-Ok-Some.row.now entry
    c.in-Some.ensures (part_found found.field-0 (λ row. row.now) c.in-Some.text.now found.row
    found.field-0-is found.ensures) row in
    ap Some (c.in_ok-entry_of-in-Ok-Some.ensures.every entry has)

pub returns-in-Ok-None-clause-row : goal.returns-in-Ok-None-clause-row
returns-in-Ok-None-clause-row c =
    let found = c.in-Ok-None in
    no_row c.args.bytes.now c.in-Some.text.now c.in-Some.ensures (none_found found.field-0 (λ row. row.now) c.in-Some.text.now
    found.field-0-is found.ensures)

pub returns-in-Ok-None-clause-every : goal.returns-in-Ok-None-clause-every
returns-in-Ok-None-clause-every c = λ entry row.
    let found = c.in-Ok-None in
    absurd (no_entry c.args.bytes.now c.in-Some.text.now entry c.in-Some.ensures
    (none_found found.field-0 (λ row. row.now) c.in-Some.text.now
    found.field-0-is found.ensures) row)
