-- Steps of the code; no public clause cites them.
-- What serving an open hall comes to (own).
use Rattle.std.specs.Prelude.{◌⊎◌, Result, Ok, Err}
use Rattle.sinks.specs.Streams.{IsQuiet, Stream, WrotePrefix, WroteWhole}
use Rattle.hall_server.specs.Serving.{serving_line}
use Rattle.hall_server.specs.declared.fault.ServeFault.{ServeFault}
use Rattle.hall_server.specs.declared.fault.ServeFault.TheVariants as faults

-- the line is out, or a prefix of it where the output failed, or nothing where memory ran out
-- before
abbrev pub OpenServesTo : Stream → Result (Unit {0}) ServeFault → Type 0
OpenServesTo out (Ok _) = WroteWhole out serving_line
OpenServesTo out (Err faults.OutputFault) = WrotePrefix out serving_line
OpenServesTo out (Err faults.NoMemory) = IsQuiet out ⊎ WroteWhole out serving_line
OpenServesTo out (Err fault) = ⊥
