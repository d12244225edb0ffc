-- What a fault of the system becomes (own).
use Rattle.std.specs.Prelude.{◌≡◌, Result, Ok, Err}
use Rattle.std.specs.IoError.{error_kind}
use Rattle.std.specs.declared.io.Error.{Error}
use Rattle.std.specs.declared.io.ErrorKind.TheVariants.{OutOfMemory}
use Rattle.keeper_core.specs.declared.keeper.KeepFault.{KeepFault}
use Rattle.keeper_core.specs.declared.keeper.KeepFault.TheVariants as keeper

-- want of memory, and nothing else, is told as that
abbrev pub BecomesFault : Error → KeepFault → Type 0
BecomesFault fault keeper.NoMemory = error_kind fault ≡ OutOfMemory
BecomesFault fault keeper.Failed = ¬ (error_kind fault ≡ OutOfMemory)

-- an answer is handed on, and a fault becomes one of a keeper
abbrev pub Becomes : {T : Type 0} → Result T Error → Result T KeepFault → Type 0
Becomes (Ok answer) (Ok handed) = handed ≡ answer
Becomes (Err fault) (Err told) = BecomesFault fault told
Becomes answer handed = ⊥
