-- What a call of a sink made of its stream.
use Rattle.std.proofs.Common.{ℕ, List, Option, Some, None, Ok, Err, take, refl}
use Rattle.std.specs.declared.option.Option.{Option}
use Rattle.geda_defs.specs.Causes.{HasCause}
use Rattle.geda_defs.specs.Contents.{Writes}
use Rattle.sinks.specs.declared.sink.SinkFault.{SinkFault}
use Rattle.sinks.specs.declared.sink.SinkFault.TheVariants as faults
use Rattle.sinks.specs.Streams.{HoldsAfter, Stream, WrotePrefix}

-- what a write that failed left
first_part : (old new : Option (List ℕ)) (piece : List ℕ) (e : SinkFault) → Writes old new piece (Err e) → (n : ℕ) × HoldsAfter old new (take n piece)
first_part None new piece e writes = (0, tt)
first_part (Some old) None piece e writes = absurd writes
first_part (Some old) (Some new) piece e writes = writes

-- a write that failed wrote a first part
pub prefix_written : (stream : Stream) (piece : List ℕ) (e : SinkFault) → Writes stream.old stream.new piece (Err e) → HasCause {T = Unit {0}} stream.faults.old stream.faults.new (Err e) faults.Failed → WrotePrefix stream piece
prefix_written stream piece faults.Failed writes has = (has.cause refl, first_part stream.old stream.new piece faults.Failed writes)

-- a write that succeeded wrote the whole
pub whole_written : (old new : Option (List ℕ)) (piece : List ℕ) → Writes {E = SinkFault} old new piece (Ok tt) → HoldsAfter old new piece
whole_written None new piece writes = tt
whole_written (Some old) None piece writes = absurd writes
whole_written (Some old) (Some new) piece writes = writes
