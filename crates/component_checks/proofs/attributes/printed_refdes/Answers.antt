use Rattle.std.proofs.Common.{ap, sym, option_copied}
use Rattle.component_checks.proofs.attributes.printed_refdes.Goals as goal

pub line_under-requires : goal.line_under-requires
line_under-requires c = c.requires c.in-Some.refdes.now (sym (ap option_copied c.in-Some.is))
