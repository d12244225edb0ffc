use Rattle.geda_read.proofs.Readings.{symbol_found, symbol_found_always, symbol_told, symbol_told_always}
use Rattle.geda_read.proofs.reading.read_symbol.Goals as goal

pub returns-clause-found : goal.returns-clause-found
returns-clause-found c = symbol_found c.args.bytes.now c.symbol_in.result c.symbol_in.ensures

pub returns-clause-always_found : goal.returns-clause-always_found
returns-clause-always_found c = symbol_found_always c.args.bytes.now c.symbol_in.result c.symbol_in.ensures

pub returns-clause-told : goal.returns-clause-told
returns-clause-told c = symbol_told c.args.bytes.now c.symbol_in.result c.symbol_in.ensures

pub returns-clause-always_told : goal.returns-clause-always_told
returns-clause-always_told c = symbol_told_always c.args.bytes.now c.symbol_in.result c.symbol_in.ensures
