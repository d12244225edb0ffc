use Rattle.file_keeper.proofs.RowLaws.{entry_loaded, entry_read}
use Rattle.file_keeper.proofs.rows.entry_of.Goals as goal

pub returns-clause-read : goal.returns-clause-read
returns-clause-read c =
    let e = c.read_row.ensures in
    entry_read c.args.text.now c.read_row.result c.entry_in.result c.entry_in.ensures e.found e.every

pub returns-clause-every : goal.returns-clause-every
returns-clause-every c =
    entry_loaded c.args.text.now c.read_row.result c.entry_in.result c.entry_in.ensures c.read_row.ensures.every
