-- Steps of the code; no public clause cites them.
-- How faults are passed on from one function to the next (own).
use Rattle.std.specs.Prelude.{◌≡◌, ℕ, List}
use Rattle.project_files.specs.declared.fault.FileFault.{FileFault}
use Rattle.geda_read.specs.declared.fault.ReadFault.{ReadFault}
use Rattle.geda_read.specs.declared.fault.ReadFault.TheVariants as read
use Rattle.project_files.specs.declared.fault.FileFault.TheVariants as faults

-- what a fault of the reader becomes
abbrev pub IsRefusalOf : List ℕ → ReadFault → FileFault → Type 0
IsRefusalOf file (read.At kind line) e = e ≡ faults.Refused file line kind
IsRefusalOf file read.NoMemory e = e ≡ faults.NoMemory
