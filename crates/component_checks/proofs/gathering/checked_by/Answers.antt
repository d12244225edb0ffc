use Rattle.std.proofs.Common.{◌∙◌, option_copied}
use Rattle.component_checks.proofs.ValueLemmas.{line_bytes}
use Rattle.component_checks.proofs.gathering.checked_by.Goals as goal

pub printed_refdes-requires : goal.printed_refdes-requires
printed_refdes-requires c = λ text e.
    line_bytes c.args.found.now.flat.object (option_copied c.args.library) c.args.values.now c.requires text (e ∙ c.refdes_line-refdes.ensures)
