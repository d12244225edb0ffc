-- Results.
use Rattle.std.proofs.Common.{Ok, Err}
use Rattle.std.specs.Prelude.{IfOk, OnOk, Result}

-- what holds of a value that is there, by what holds of it already
pub if_ok : {T E : Type 0} (P Q : T → Type 0) → ((x : T) → P x → Q x) → (r : Result T E) → IfOk r P → IfOk r Q
if_ok P Q to (Ok x) h = to x h
if_ok P Q to (Err e) h = tt

-- what holds after success, by what holds then already
pub on_ok : {T E : Type 0} {P Q : Type 0} → (P → Q) → (r : Result T E) → OnOk r P → OnOk r Q
on_ok to (Ok x) h = to h
on_ok to (Err e) h = tt
