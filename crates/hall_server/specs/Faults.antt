-- What faults of a keeper and of an opening become (own).
use Rattle.std.specs.Prelude.{◌≡◌}
use Rattle.hall_core.specs.declared.rows.OpenFault.{OpenFault}
use Rattle.hall_core.specs.declared.rows.OpenFault.TheVariants as opening
use Rattle.keeper_core.specs.declared.keeper.KeepFault.{KeepFault}
use Rattle.keeper_core.specs.declared.keeper.KeepFault.TheVariants as keeping
use Rattle.hall_server.specs.declared.fault.ServeFault.{ServeFault}
use Rattle.hall_server.specs.declared.fault.ServeFault.TheVariants as faults

-- what a fault of the keeper becomes
abbrev pub FromKeeper : KeepFault → ServeFault → Type 0
FromKeeper keeping.Failed e = e ≡ faults.KeeperFault
FromKeeper keeping.NoMemory e = e ≡ faults.NoMemory

-- what a fault of the opening becomes
abbrev pub FromOpening : OpenFault → ServeFault → Type 0
FromOpening opening.KeeperFault e = e ≡ faults.KeeperFault
FromOpening (opening.RowRefused serial) e = e ≡ faults.RowRefused serial
FromOpening opening.NoPlace e = e ≡ faults.NoPlace
FromOpening opening.NoMemory e = e ≡ faults.NoMemory
