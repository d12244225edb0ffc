-- What comes of a copying, step by step.
use Rattle.std.proofs.Common.{◌≡◌, ◌⊎◌, inl, inr, ℕ, List, length, IfSome, Result, Ok, Err, IsErrOf, refl, sym, subst}
use Rattle.std.specs.declared.option.Option.{Option}
use Rattle.std.specs.declared.option.Option.TheVariants.{Some, None}
use Rattle.edit_entries.specs.Entries.{EntryData}
use Rattle.edit_rules.specs.Verdicts.{Legal}
use Rattle.keeper_core.specs.Faults.{NeverFails}
use Rattle.keeper_core.specs.declared.keeper.KeepFault.{KeepFault}
use Rattle.keeper_core.specs.declared.keeper.KeepFault.TheVariants as keeping
use Rattle.sinks.specs.Streams.{IsQuiet, Stream}
use Rattle.store_copy.specs.Copies.{AreFirst, CausesNoFault, Filled, Stores}
use Rattle.store_copy.specs.declared.fault.StoreFault.{StoreFault}
use Rattle.store_copy.specs.declared.fault.StoreFault.TheVariants as copying
use Rattle.store_copy.specs.Faults.{FromCopying, FromEitherKeeper}
use Rattle.store_copy.specs.Storing.{Keepers, PutsNone, PutsFirst, PutsRows, StoresTo, keepers}
use Rattle.store_copy.specs.steps.Copying.{CopiesTo, Tells}
use Rattle.store_copy.specs.declared.storing_fault.StoringFault.{StoringFault}
use Rattle.store_copy.specs.declared.storing_fault.StoringFault.TheVariants as faults
use Rattle.store_copy.proofs.TakeLemmas.{take_whole}

-- the rows were copied
pub copies : (a b : Type 0) (from old new : Option (List EntryData)) (count : ℕ)
    → Stores from old (Ok count) new → PutsRows (keepers a b from old new) count
copies a b None old new count h = tt
copies a b (Some all) old new count h = h

-- then the first of them were
pub whole : (k : Keepers) (count : ℕ) → PutsRows k count → PutsFirst k
whole k count = go k.store k.had
  where
    go : (from old : Option (List EntryData))
        → IfSome from (λ all. Legal all × IfSome old (λ had. Filled all had k.has count))
        → PutsNone k
        ⊎ IfSome from (λ all. Legal all × IfSome old (λ _. IfSome k.has (AreFirst all)))
    go None old h = inr tt
    go (Some all) None h = inr h
    go (Some all) (Some had) h = inr (
      h.0,
      subst (λ rows. IfSome rows (AreFirst all)) (sym h.1.now)
          (length all, sym (take_whole all)),
    )

-- some rows were copied
first : (a b : Type 0) (from old new : Option (List EntryData))
    → (new ≡ old) ⊎ IfSome from (λ all. Legal all × IfSome new (AreFirst all))
    → PutsFirst (keepers a b from old new)
first a b from old new (inl same) = inl same
first a b None old new (inr h) = inr tt
first a b (Some all) None new (inr h) = inr (h.0, tt)
first a b (Some all) (Some had) new (inr h) = inr h

-- they were not
pub not_copied : (a b a' b' : Type 0) (from old new : Option (List EntryData))
    (fault : StoreFault) (e : StoringFault) → FromCopying fault e
    → (a → CausesNoFault {X = ℕ} a' (Err fault) copying.FromFault)
    → (b → CausesNoFault {X = ℕ} b' (Err fault) copying.ToFault) → Stores from old (Err fault) new
    → CopiesTo (keepers a b from old new) (Err e)
not_copied a b a' b' from old new copying.FromFault e is never_from never_to h =
    subst (λ (f : StoringFault). CopiesTo (keepers a b from old new) (Err f)) (sym is)
    (λ steady. (never_from steady.0).no_fault refl, inl h)
not_copied a b a' b' from old new copying.ToFault e is never_from never_to h =
    subst (λ (f : StoringFault). CopiesTo (keepers a b from old new) (Err f)) (sym is)
    (λ steady. (never_to steady.1).no_fault refl, first a b from old new h)
not_copied a b a' b' from old new (copying.RowRefused serial) e is never_from never_to h =
    subst (λ (f : StoringFault). CopiesTo (keepers a b from old new) (Err f)) (sym is) (h.1, h.0)
not_copied a b a' b' from old new (copying.Differs serial) e is never_from never_to h =
    subst (λ (f : StoringFault). CopiesTo (keepers a b from old new) (Err f)) (sym is) (h.1, h.0)
not_copied a b a' b' from old new copying.NoMemory e is never_from never_to h =
    subst (λ (f : StoringFault). CopiesTo (keepers a b from old new) (Err f)) (sym is)
    (first a b from old new h)

-- they were copied, and that is told
pub told : (k : Keepers) (out : Stream) (count : ℕ) (r : Result (Unit {0}) StoringFault)
    → PutsRows k count → Tells out count r → StoresTo k out r
told k out count (Ok _) puts h = (count, puts, h)
told k out count (Err faults.OutputFault) puts h = (count, puts, h)
told k out count (Err faults.NoMemory) puts h = (whole k count puts, h)
told k out count (Err faults.KeeperFault) puts h = absurd h
told k out count (Err (faults.RowRefused serial)) puts h = absurd h
told k out count (Err (faults.RowDiffers serial)) puts h = absurd h

pub stopped : (k : Keepers) (out : Stream) (e : StoringFault) → CopiesTo k (Err e) → IsQuiet out
    → StoresTo k out (Err e)
stopped k out faults.KeeperFault h quiet = (h.0, h.1, quiet)
stopped k out (faults.RowRefused serial) h quiet = (h.0, h.1, quiet)
stopped k out (faults.RowDiffers serial) h quiet = (h.0, h.1, quiet)
stopped k out faults.OutputFault h quiet = absurd h
stopped k out faults.NoMemory h quiet = (h, quiet)

-- one of the keepers was not attached
pub no_store : (a a' b : Type 0) (from to : Option (List EntryData)) (out : Stream)
    (fault : KeepFault) (e : StoringFault) → FromEitherKeeper fault e
    → (a → NeverFails {X = Unit {0}} a' (Err fault)) → IsQuiet out
    → StoresTo (keepers a b from to to) out (Err e)
no_store a a' b from to out keeping.Failed e is never quiet =
    subst (λ (f : StoringFault). StoresTo (keepers a b from to to) out (Err f)) (sym is)
    (λ steady. (never steady.0).no_fault refl, inl refl, quiet)
no_store a a' b from to out keeping.NoMemory e is never quiet =
    subst (λ (f : StoringFault). StoresTo (keepers a b from to to) out (Err f)) (sym is)
    (inl refl, quiet)

pub no_database : (a b b' : Type 0) (from to later : Option (List EntryData)) (out : Stream)
    (fault : KeepFault) (e : StoringFault) → FromEitherKeeper fault e → later ≡ to
    → (b → NeverFails {X = Unit {0}} b' (Err fault)) → IsQuiet out
    → StoresTo (keepers a b from to later) out (Err e)
no_database a b b' from to later out keeping.Failed e is same never quiet =
    subst (λ (f : StoringFault). StoresTo (keepers a b from to later) out (Err f)) (sym is)
    (λ steady. (never steady.1).no_fault refl, inl same, quiet)
no_database a b b' from to later out keeping.NoMemory e is same never quiet =
    subst (λ (f : StoringFault). StoresTo (keepers a b from to later) out (Err f)) (sym is)
    (inl same, quiet)

-- what was copied after both were attached
still : (a b a' b' : Type 0) (from to new : Option (List EntryData)) (out : Stream)
    (r : Result (Unit {0}) StoringFault) → (a × b → a' × b')
    → StoresTo (keepers a' b' from to new) out r → StoresTo (keepers a b from to new) out r
still a b a' b' from to new out (Ok _) steady h = h
still a b a' b' from to new out (Err faults.KeeperFault) steady h =
    (λ both. h.0 (steady both), h.1, h.2)
still a b a' b' from to new out (Err (faults.RowRefused serial)) steady h = h
still a b a' b' from to new out (Err (faults.RowDiffers serial)) steady h = h
still a b a' b' from to new out (Err faults.OutputFault) steady h = h
still a b a' b' from to new out (Err faults.NoMemory) steady h = h

pub after_store : (a b a' : Type 0) (from later to new : Option (List EntryData)) (out : Stream)
    (r : Result (Unit {0}) StoringFault) → later ≡ from → (a → a')
    → StoresTo (keepers a' b later to new) out r → StoresTo (keepers a b from to new) out r
after_store a b a' from later to new out r same steady h =
    subst (λ rows. StoresTo (keepers a b rows to new) out r) same
    (still a b a' b later to new out r (λ both. (steady both.0, both.1)) h)

pub after_database : (a b b' : Type 0) (from to later new : Option (List EntryData)) (out : Stream)
    (r : Result (Unit {0}) StoringFault) → later ≡ to → (b → b')
    → StoresTo (keepers a b' from later new) out r → StoresTo (keepers a b from to new) out r
after_database a b b' from to later new out r same steady h =
    subst (λ rows. StoresTo (keepers a b from rows new) out r) same
    (still a b a b' from later new out r (λ both. (both.0, steady both.1)) h)
