-- Steps of the code; no public clause cites them.
-- What stays as it was where a row is refused.
use Rattle.std.specs.Prelude.{◌≡◌, Result, Ok, Err}
use Rattle.geda_read.specs.declared.refusal.Refusal.{Refusal}
use Rattle.geda_read.specs.declared.refusal.Refusal.TheVariants as refusals

-- where it may not stand nothing changes; want of memory says nothing
abbrev pub StaysBy : {S : Type 0} → Refusal → S → S → Type 0
StaysBy refusals.NoMemory old new = Unit {0}
StaysBy refusals.Stray old new = new ≡ old

abbrev pub Stays : {X S : Type 0} → Result X Refusal → S → S → Type 0
Stays (Ok x) old new = Unit {0}
Stays (Err e) old new = StaysBy e old new
