-- What comes of a serving, step by step.
use Rattle.std.proofs.Common.{◌≡◌, List, Option, Result, Ok, Err, IsErrOf, inl, inr, refl, sym, subst}
use Rattle.std.specs.declared.option.Option.{Option}
use Rattle.edit_entries.specs.Entries.{EntryData}
use Rattle.hall_core.specs.Rows.{Refuses}
use Rattle.hall_core.specs.declared.rows.OpenFault.{OpenFault}
use Rattle.hall_core.specs.declared.rows.OpenFault.TheVariants as opening
use Rattle.keeper_core.specs.Faults.{NeverFails}
use Rattle.keeper_core.specs.declared.keeper.KeepFault.{KeepFault}
use Rattle.keeper_core.specs.declared.keeper.KeepFault.TheVariants as keeping
use Rattle.outside.specs.Counts.{Counts, Failed}
use Rattle.sinks.specs.Streams.{IsQuiet, Stream}
use Rattle.hall_server.specs.Serving.{AreLegal, AreRefusedAt, Outside, ServesTo, outside}
use Rattle.hall_server.specs.declared.fault.ServeFault.{ServeFault}
use Rattle.hall_server.specs.declared.fault.ServeFault.TheVariants as faults
use Rattle.hall_server.specs.Faults.{FromKeeper, FromOpening}
use Rattle.hall_server.specs.steps.Passing.{OpenServesTo}

-- an open hall was served
pub open_served : (around : Outside) (out : Stream) (r : Result (Unit {0}) ServeFault) → AreLegal around.rows → OpenServesTo out r → ServesTo around out r
open_served around out (Ok _) legal h = (legal, h)
open_served around out (Err faults.GateFault) legal h = absurd h
open_served around out (Err faults.KeeperFault) legal h = absurd h
open_served around out (Err (faults.RowRefused serial)) legal h = absurd h
open_served around out (Err faults.NoPlace) legal h = absurd h
open_served around out (Err faults.OutputFault) legal h = (legal, h)
open_served around out (Err faults.NoMemory) legal h = h

-- the hall was not opened
pub not_opened : {X : Type 0} (around : Outside) (out : Stream) (fault : OpenFault) (e : ServeFault) → FromOpening fault e → Refuses around.rows fault → (IsErrOf {T = X} (Err fault) opening.NoPlace → Failed around.places) → (around.never_fails → IsErrOf {T = X} (Err fault) opening.KeeperFault → ⊥) → IsQuiet out → ServesTo around out (Err e)
not_opened around out opening.KeeperFault e from refuses place never quiet = subst (λ (f : ServeFault). ServesTo around out (Err f)) (sym from) (λ steady. never steady refl, quiet)
not_opened around out (opening.RowRefused serial) e from refuses place never quiet = subst (λ (f : ServeFault). ServesTo around out (Err f)) (sym from) (refuses, quiet)
not_opened around out opening.NoPlace e from refuses place never quiet = subst (λ (f : ServeFault). ServesTo around out (Err f)) (sym from) (place refl, quiet)
not_opened around out opening.NoMemory e from refuses place never quiet = subst (λ (f : ServeFault). ServesTo around out (Err f)) (sym from) (inl quiet)

-- the store was not taken
pub not_attached : {never now : Type 0} (rows : Option (List EntryData)) (gate places : Counts) (out : Stream) (fault : KeepFault) (e : ServeFault) → FromKeeper fault e → (never → NeverFails {X = Unit {0}} now (Err fault)) → IsQuiet out → ServesTo (outside never rows gate places) out (Err e)
not_attached {never} rows gate places out keeping.Failed e from steady quiet = subst (λ (f : ServeFault). ServesTo (outside never rows gate places) out (Err f)) (sym from) (λ n. (steady n).no_fault refl, quiet)
not_attached {never} rows gate places out keeping.NoMemory e from steady quiet = subst (λ (f : ServeFault). ServesTo (outside never rows gate places) out (Err f)) (sym from) (inl quiet)

-- what was served after the store was taken
pub after_attaching : (never now : Type 0) (rows later : Option (List EntryData)) (gate places : Counts) (out : Stream) (r : Result (Unit {0}) ServeFault) → later ≡ rows → (never → now) → ServesTo (outside now later gate places) out r → ServesTo (outside never rows gate places) out r
after_attaching never now rows later gate places out (Ok _) same still h = (subst AreLegal same h.0, h.1)
after_attaching never now rows later gate places out (Err faults.GateFault) same still h = h
after_attaching never now rows later gate places out (Err faults.KeeperFault) same still h = (λ n. h.0 (still n), h.1)
after_attaching never now rows later gate places out (Err (faults.RowRefused serial)) same still h = (subst (λ rs. AreRefusedAt rs serial) same h.0, h.1)
after_attaching never now rows later gate places out (Err faults.NoPlace) same still h = h
after_attaching never now rows later gate places out (Err faults.OutputFault) same still h = (subst AreLegal same h.0, h.1)
after_attaching never now rows later gate places out (Err faults.NoMemory) same still h = h
