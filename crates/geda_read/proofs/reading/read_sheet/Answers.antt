use Rattle.geda_read.proofs.Readings.{sheet_found, sheet_found_always, sheet_told, sheet_told_always}
use Rattle.geda_read.proofs.reading.read_sheet.Goals as goal

pub returns-clause-found : goal.returns-clause-found
returns-clause-found c = sheet_found c.args.bytes.now c.sheet_in.result c.sheet_in.ensures

pub returns-clause-always_found : goal.returns-clause-always_found
returns-clause-always_found c = sheet_found_always c.args.bytes.now c.sheet_in.result c.sheet_in.ensures

pub returns-clause-told : goal.returns-clause-told
returns-clause-told c = sheet_told c.args.bytes.now c.sheet_in.result c.sheet_in.ensures

pub returns-clause-always_told : goal.returns-clause-always_told
returns-clause-always_told c = sheet_told_always c.args.bytes.now c.sheet_in.result c.sheet_in.ensures
