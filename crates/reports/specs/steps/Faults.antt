-- Steps of the code; no public clause cites them.
-- An answer that is passed on (own).
use Rattle.std.specs.Prelude.{◌≡◌, ⊤, ℕ, List, Result, Err}
use Rattle.reports.specs.declared.fault.ReportFault.{ReportFault}
use Rattle.reports.specs.declared.fault.ReportFault.TheVariants as faults

-- this is answered, or want of memory
abbrev pub Told : Result (List ℕ) ReportFault → Result (List ℕ) ReportFault → Type 0
Told answer (Err faults.NoMemory) = ⊤
Told answer result = result ≡ answer
