-- What the faults of the parts become (own).
use Rattle.std.specs.Prelude.{◌≡◌}
use Rattle.keeper_core.specs.declared.keeper.KeepFault.{KeepFault}
use Rattle.keeper_core.specs.declared.keeper.KeepFault.TheVariants as keeping
use Rattle.store_copy.specs.declared.fault.StoreFault.{StoreFault}
use Rattle.store_copy.specs.declared.fault.StoreFault.TheVariants as copying
use Rattle.store_copy.specs.declared.storing_fault.StoringFault.{StoringFault}
use Rattle.store_copy.specs.declared.storing_fault.StoringFault.TheVariants as faults

-- what a fault of either keeper becomes
abbrev pub FromEitherKeeper : KeepFault → StoringFault → Type 0
FromEitherKeeper keeping.Failed e = e ≡ faults.KeeperFault
FromEitherKeeper keeping.NoMemory e = e ≡ faults.NoMemory

-- what a fault of the copying becomes
abbrev pub FromCopying : StoreFault → StoringFault → Type 0
FromCopying copying.FromFault e = e ≡ faults.KeeperFault
FromCopying copying.ToFault e = e ≡ faults.KeeperFault
FromCopying (copying.RowRefused serial) e = e ≡ faults.RowRefused serial
FromCopying (copying.Differs serial) e = e ≡ faults.RowDiffers serial
FromCopying copying.NoMemory e = e ≡ faults.NoMemory
