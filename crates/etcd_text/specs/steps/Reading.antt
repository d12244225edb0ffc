-- Why an answer is no JSON value.
use Rattle.std.specs.Prelude.{◌≡◌, Option, None}
use Rattle.serde_json.specs.Data.{Data}
use Rattle.engine_core.specs.declared.engine.EngineFault.{EngineFault}
use Rattle.engine_core.specs.declared.engine.EngineFault.TheVariants as faults

-- there is none, or memory ran out
abbrev pub IsUnread : EngineFault → Option Data → Type 0
IsUnread faults.NoAnswer value = value ≡ None
IsUnread faults.NoMemory value = Unit {0}
