-- A keeper that never fails (own).
use Rattle.std.specs.Prelude.{Result, IsErrOf}
use Rattle.keeper_core.specs.declared.keeper.KeepFault.{KeepFault}
use Rattle.keeper_core.specs.declared.keeper.KeepFault.TheVariants.{Failed}

-- it still never fails, and this call did not
pub record NeverFails {X : Type 0} (now : Type 0) (result : Result X KeepFault) : Type 0 where
  pub still : now
  pub no_fault : ¬ (IsErrOf result Failed)
