use Rattle.geda_read.proofs.Readings.{object_found, object_found_always, object_told, object_told_always}
use Rattle.geda_read.proofs.reading.read_object.Goals as goal

pub returns-clause-found : goal.returns-clause-found
returns-clause-found c = object_found c.args.bytes.now c.object_in.result c.object_in.ensures

pub returns-clause-always_found : goal.returns-clause-always_found
returns-clause-always_found c = object_found_always c.args.bytes.now c.object_in.result c.object_in.ensures

pub returns-clause-told : goal.returns-clause-told
returns-clause-told c = object_told c.args.bytes.now c.object_in.result c.object_in.ensures

pub returns-clause-always_told : goal.returns-clause-always_told
returns-clause-always_told c = object_told_always c.args.bytes.now c.object_in.result c.object_in.ensures
