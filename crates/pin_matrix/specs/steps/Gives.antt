-- Steps of the code; no public clause cites them.
-- What the parts of the reader give.
use Rattle.std.specs.Prelude.{◌≡◌, ⊤, Option, Some, None, Result, Ok, Err}
use Rattle.pin_matrix.specs.declared.fault.MatrixFault.{MatrixFault}
use Rattle.pin_matrix.specs.declared.fault.MatrixFault.TheVariants as fault

abbrev pub IsWhy : {Y : Type 0} → Option Y → MatrixFault → Type 0
IsWhy read fault.BadToml = ⊥
IsWhy read fault.BadRows = read ≡ None
IsWhy read fault.NoMemory = ⊤

-- what is read, seen so; `BadRows` where nothing is
abbrev pub Gives : {X Y : Type 0} → (X → Y) → Result X MatrixFault → Option Y → Type 0
Gives view (Ok x) read = read ≡ Some (view x)
Gives view (Err e) read = IsWhy read e
