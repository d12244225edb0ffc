use Rattle.std.specs.Prelude.{option_copied}
use Rattle.hierarchy.proofs.TextLemmas.{refdes_bytes}
use Rattle.hierarchy.proofs.components.refdes_line.Goals as goal

pub line_of-requires : goal.line_of-requires
line_of-requires c = refdes_bytes c.args.object.now (option_copied c.args.library) c.in-Some.refdes.now c.in-Some.ensures
