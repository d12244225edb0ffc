-- What a fault of the hierarchy becomes (own).
use Rattle.std.specs.Prelude.{◌≡◌}
use Rattle.hierarchy.specs.declared.fault.ElabFault.{ElabFault}
use Rattle.hierarchy.specs.declared.fault.ElabFault.TheVariants as elaboration
use Rattle.reports.specs.declared.fault.ReportFault.{ReportFault}
use Rattle.reports.specs.declared.fault.ReportFault.TheVariants as faults

-- the fault of a report by one of the hierarchy
abbrev pub FromElaboration : ElabFault → ReportFault → Type 0
FromElaboration elaboration.TooManyInstances e = e ≡ faults.TooManyInstances
FromElaboration elaboration.NoMemory e = e ≡ faults.NoMemory
