-- A connection in memory (own).
use Rattle.std.specs.Prelude.{ℕ, ◌-◌, ◌==◌, min, Bool, nat_lt, if◌then◌else◌, List, ◌++◌, length, take, drop, Result, Ok, Err}
use Rattle.std.specs.List.{list_any}
use Rattle.outside.specs.Counts.{one_more}
use Rattle.web_heads.specs.declared.link.LinkFault.{LinkFault}
use Rattle.web_heads.specs.declared.link.LinkFault.TheVariants.{Failed}

-- the input that is left, what was written, the memory that is left for more, the calls that are to
-- fail, and the counts
pub record MemoryLinkData : Type 0 where
  pub input : List ℕ
  pub output : List ℕ
  pub room : ℕ
  pub failing : List ℕ
  pub calls : ℕ
  pub read_faults : ℕ
  pub write_faults : ℕ

-- the next call is to fail
abbrev pub fails : MemoryLinkData → Bool
fails l = list_any (λ n. n == one_more l.calls) l.failing

-- one more call is made
abbrev pub called : MemoryLinkData → MemoryLinkData
called l = record l { calls = one_more l.calls }

-- one more read failed
abbrev pub read_failed : MemoryLinkData → MemoryLinkData
read_failed l = record l { read_faults = one_more l.read_faults }

-- one more write failed
abbrev pub write_failed : MemoryLinkData → MemoryLinkData
write_failed l = record l { write_faults = one_more l.write_faults }

-- how many bytes a read takes: as many as there are and as fit
abbrev pub read_count : MemoryLinkData → List ℕ → ℕ
read_count l room = min (length room) (length l.input)

-- what a read into this room answers
abbrev pub read_result : MemoryLinkData → List ℕ → Result ℕ LinkFault
read_result l room = if fails l then Err Failed else Ok (read_count l room)

-- the connection after it
abbrev pub after_read : MemoryLinkData → List ℕ → MemoryLinkData
after_read l room =
    if fails l then read_failed (called l)
    else record (called l) { input = drop (read_count l room) l.input }

-- the room after it
abbrev pub room_after : MemoryLinkData → List ℕ → List ℕ
room_after l room =
    if fails l then room
    else take (read_count l room) l.input ++ drop (read_count l room) room

-- what a write answers: it fails where it is to fail, or where there is too little memory left
abbrev pub write_result : MemoryLinkData → List ℕ → Result (Unit {0}) LinkFault
write_result l piece =
    if fails l then Err Failed
    else (if nat_lt l.room (length piece) then Err Failed else Ok tt)

-- the connection after it
abbrev pub after_write : MemoryLinkData → List ℕ → MemoryLinkData
after_write l piece =
    if fails l then write_failed (called l)
    else (if nat_lt l.room (length piece) then write_failed (called l)
    else record (called l) { output = l.output ++ piece; room = l.room - length piece })
