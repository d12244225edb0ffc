-- What a step of the walk over an object promises.
use Rattle.std.specs.Prelude.{◌≡◌, Option, None, Some, Result, Ok, Err}
use Rattle.edit_move.specs.declared.fault.MoveFault.{MoveFault}
use Rattle.edit_move.specs.declared.fault.MoveFault.TheVariants as faults

-- a fault of the walk: a point has left the sheet, or memory ran out
abbrev pub Leaves : {A : Type 0} → MoveFault → Option A → Type 0
Leaves faults.NoMemory after = Unit {0}
Leaves faults.OutOfRange after = after ≡ None
Leaves faults.NotOnKind after = ⊥

-- what comes of a value, or a fault
abbrev pub Comes : {A : Type 0} → Result A MoveFault → Option A → Type 0
Comes (Ok x) after = after ≡ Some x
Comes (Err fault) after = Leaves fault after
