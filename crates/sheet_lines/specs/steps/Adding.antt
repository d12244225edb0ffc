-- Steps of the code; no public clause cites them.
-- What a line of text adds to a shape.
use Rattle.std.specs.Prelude.{◌≡◌, Result, Ok, Err}
use Rattle.geda_grammar.specs.steps.Following as following
use Rattle.geda_grammar.specs.steps.Reading as reading
use Rattle.sheet_lines.specs.declared.fault.LineFault.{LineFault}
use Rattle.sheet_lines.specs.declared.fault.LineFault.TheVariants as faults
use Rattle.sheet_lines.specs.declared.pending.Progress.{Progress}
use Rattle.sheet_lines.specs.Pending.{progress_of}

-- this is added, unless memory ran out
abbrev pub Adds : reading.Progress following.Pending → Result Progress LineFault → Type 0
Adds progress (Ok given) = progress ≡ progress_of given
Adds progress (Err faults.NoMemory) = Unit {0}
Adds progress (Err (faults.Refused kind)) = ⊥
