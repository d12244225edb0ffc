-- Steps of the code; no public clause cites them.
-- What a call answers where a fault is looked for.
use Rattle.std.specs.Prelude.{◌≡◌, Option, None, Result, Ok, Err}
use Rattle.spice_out.specs.declared.fault.SpiceFault.{SpiceFault}
use Rattle.spice_out.specs.Faults.{SpiceFails}

-- it succeeds where there is no fault, and fails with the one that was found
abbrev pub Judges : {A : Type 0} → Result A SpiceFault → Option SpiceFault → Type 0
Judges (Ok x) found = found ≡ None
Judges (Err e) found = SpiceFails e found
