use Rattle.std.proofs.Common.{inr, refl}
use Rattle.gafd_run.specs.declared.fault.RunFault.TheVariants as faults
use Rattle.gafd_run.proofs.error_lines.report.Goals as goal

pub returns-in-Err : goal.returns-in-Err
returns-in-Err g c = record { reported = faults.NoMemory; same = inr (refl, c.in-Err.ensures.made refl); said = c.report_want_of_memory.ensures.said; status_is = c.report_want_of_memory.ensures.status }
