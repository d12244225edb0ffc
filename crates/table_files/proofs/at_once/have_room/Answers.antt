use Rattle.std.proofs.Common.{◌≡◌, true, map, rules}
use Rattle.std.specs.List.{AllByRecursion}
use Rattle.project_model.specs.Tables.{row_now}
use Rattle.desk_entries.specs.steps.RoomForEntries.{IsFileText}
use Rattle.table_files.specs.steps.Objects.{all_on, have_keys}
use Rattle.table_files.specs.steps.Openings.{is_opened}
use Rattle.table_files.proofs.RoomLemmas.{have_room}
use Rattle.table_files.proofs.at_once.have_room.Goals as goal

pub returns : goal.returns
returns c = λ yes.
    let h = c.args.desk.now.history in
    let sheet = c.args.sheet.now in
    let rows = c.args.rows.now in
    let cs = c.args.components.now in
    let opened : is_opened h ≡ true = search rules in
    let home : all_on sheet (map row_now rows) ≡ true = search rules in
    let keys : have_keys rows cs ≡ true = search rules in
    let short : AllByRecursion IsFileText cs = search rules in
    have_room h sheet rows cs c.bytes_of_rows.result c.bytes_of.result c.requires c.is_opened.ensures.legal opened home keys c.tell_ranges.ensures short
    c.bytes_of_rows.ensures c.bytes_of.ensures (c.are_little.ensures yes)
