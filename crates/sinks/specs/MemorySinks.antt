-- What the sink in memory holds, and how a call changes it (own).
use Rattle.std.specs.Prelude.{ℕ, ◌-◌, ◌<◌, ◌⊎◌, ◌++◌, List, length, Contains}
use Rattle.outside.specs.Counts.{one_more}

-- the bytes written, the room for more, the numbers of the calls that fail, and how many calls
-- there were and failed
pub record MemorySinkData : Type 0 where
  pub written : List ℕ
  pub room : ℕ
  pub failing : List ℕ
  pub calls : ℕ
  pub faults : ℕ

-- the next call of the sink is to fail, or has more bytes than there is room for
abbrev pub SinkFails : MemorySinkData → ℕ → Type 0
SinkFails sink count = Contains sink.failing (one_more sink.calls) ⊎ (sink.room < count)

-- the sink after a call that wrote a piece
abbrev pub sink_after_write : MemorySinkData → List ℕ → MemorySinkData
sink_after_write sink piece = record {
  written = sink.written ++ piece;
  room = sink.room - length piece;
  failing = sink.failing;
  calls = one_more sink.calls;
  faults = sink.faults;
}

-- the sink after a call that failed
abbrev pub sink_after_fault : MemorySinkData → MemorySinkData
sink_after_fault sink = record {
  written = sink.written;
  room = sink.room;
  failing = sink.failing;
  calls = one_more sink.calls;
  faults = one_more sink.faults;
}
