-- What serving a hall comes to (own).
use Rattle.std.specs.Prelude.{◌⊎◌, ℕ, List, Result, Ok, Err, IfSome, codes}
use Rattle.std.specs.declared.option.Option.{Option}
use Rattle.edit_entries.specs.Entries.{EntryData}
use Rattle.edit_rules.specs.Verdicts.{Legal}
use Rattle.hall_core.specs.Rows.{IsRefusedAt}
use Rattle.outside.specs.Counts.{Counts, Failed}
use Rattle.sinks.specs.Streams.{IsQuiet, Stream, WrotePrefix, WroteWhole}
use Rattle.hall_server.specs.declared.fault.ServeFault.{ServeFault}
use Rattle.hall_server.specs.declared.fault.ServeFault.TheVariants as faults

-- the keeper: that no call of it ever fails, and its rows, where it tells them; and how often the
-- gate failed and a place was refused, before a serving and after it
pub record Outside : Type 1 where
  pub never_fails : Type 0
  pub rows : Option (List EntryData)
  pub gate : Counts
  pub places : Counts

-- the four, from what was told before and after
abbrev pub outside : Type 0 → Option (List EntryData) → Counts → Counts → Outside
outside never_fails rows gate places =
    record { never_fails = never_fails; rows = rows; gate = gate; places = places }

-- the line that tells that links are served
abbrev pub serving_line : List ℕ
serving_line = codes "serving\n"

-- told rows are a legal history
abbrev pub AreLegal : Option (List EntryData) → Type 0
AreLegal rows = IfSome rows (λ all. Legal all)

-- of told rows the one of this serial is the first that the rules do not accept
abbrev pub AreRefusedAt : Option (List EntryData) → ℕ → Type 0
AreRefusedAt rows serial = IfSome rows (λ all. IsRefusedAt all serial)

-- why a serving ends so, and what is then out: it had its line out, over rows that are accepted,
-- and the gate gave no more links; or the gate, the keeper, a place or the output failed; or a row
-- is not accepted; or memory ran out, before the line was out or after it
abbrev pub ServesTo : Outside → Stream → Result (Unit {0}) ServeFault → Type 0
ServesTo outside out (Ok _) = AreLegal outside.rows × WroteWhole out serving_line
ServesTo outside out (Err faults.GateFault) = Failed outside.gate × IsQuiet out
ServesTo outside out (Err faults.KeeperFault) = ¬ outside.never_fails × IsQuiet out
ServesTo outside out (Err (faults.RowRefused serial)) =
    AreRefusedAt outside.rows serial × IsQuiet out
ServesTo outside out (Err faults.NoPlace) = Failed outside.places × IsQuiet out
ServesTo outside out (Err faults.OutputFault) =
    AreLegal outside.rows × WrotePrefix out serving_line
ServesTo outside out (Err faults.NoMemory) = IsQuiet out ⊎ WroteWhole out serving_line
