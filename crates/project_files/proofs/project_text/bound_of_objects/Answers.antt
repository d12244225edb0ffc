use Rattle.std.proofs.Common.{arith}
use Rattle.project_files.specs.Opening.{object_bytes}
use Rattle.project_files.proofs.TextLemmas.{whole_bound}
use Rattle.project_files.proofs.project_text.bound_of_objects.Goals as goal

pub returns : goal.returns
returns c = whole_bound object_bytes c.args.objects.now c.loop-object.object-index c.loop-object.bytes _ (omega arith) c.loop-object.invariant.fits c.loop-object.invariant.rest
