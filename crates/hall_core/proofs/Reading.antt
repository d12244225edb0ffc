-- The next row, and the history that has the rows before it.
use Rattle.std.proofs.Common.{◌≡◌, ℕ, List, [], ◌∷◌, ◌++◌, length, take, Some, None, Option, IfSome, Err, refl, ap, sym, ◌∙◌, subst}
use Rattle.std.specs.List.{slice_get}
use Rattle.std.proofs.Math.Seq.{take-append_seam}
use Rattle.std.proofs.lemmas.Option.{slice_get_within}
use mathlib.Core.List.{IsPrefix}
use Rattle.edit_entries.specs.Entries.{EntryData}
use Rattle.edit_rules.specs.Verdicts.{Legal}
use Rattle.hall_log.specs.Histories.{MayFollow}
use Rattle.hall_core.specs.Rows.{IsRefusedAt, NeverFaults}
use Rattle.hall_core.specs.declared.rows.OpenFault.{OpenFault}
use Rattle.hall_core.specs.declared.rows.OpenFault.TheVariants as faults

prefix_next : (h all : List EntryData) (e : EntryData) → IsPrefix h all → Some e ≡ slice_get all (length h) → IsPrefix (h ++ e ∷ []) all
prefix_next [] [] e p at = absurd (cc at)
prefix_next [] (x ∷ all) e p at = let same : e ≡ x = cc at in (all, ap (λ y. y ∷ all) same)
prefix_next (a ∷ h) [] e p at = absurd (cc (p.1))
prefix_next (a ∷ h) (b ∷ all) e p at =
    let heads : a ≡ b = cc (p.1) in
    let rest = prefix_next h all e (p.0, cc (p.1)) at in
    (rest.0, cc (heads, rest.1))

prefix_end : (h all : List EntryData) → IsPrefix h all → None ≡ slice_get all (length h) → all ≡ h
prefix_end [] [] p at = refl
prefix_end [] (x ∷ all) p at = absurd (cc at)
prefix_end (a ∷ h) [] p at = absurd (cc (p.1))
prefix_end (a ∷ h) (b ∷ all) p at =
    let heads : a ≡ b = cc (p.1) in
    let rest = prefix_end h all (p.0, cc (p.1)) at in
    cc (heads, rest)

pub taken : (rows : Option (List EntryData)) (h : List EntryData) (n : ℕ) (e : EntryData) → n ≡ length h → IfSome rows (λ all. Some e ≡ slice_get all n) → IfSome rows (λ all. IsPrefix h all → IsPrefix (h ++ e ∷ []) all)
taken None h n e is at = tt
taken (Some all) h n e is at = λ p. prefix_next h all e p (subst (λ k. Some e ≡ slice_get all k) is at)

pub ended : (rows : Option (List EntryData)) (h : List EntryData) (n : ℕ) → n ≡ length h → IfSome rows (λ all. None ≡ slice_get all n) → IfSome rows (λ all. IsPrefix h all → all ≡ h)
ended None h n is at = tt
ended (Some all) h n is at = λ p. prefix_end h all p (subst (λ k. None ≡ slice_get all k) is at)

refused_at : (h all : List EntryData) (e : EntryData) → Legal h → ¬ (MayFollow h e) → IsPrefix h all → Some e ≡ slice_get all (length h) → IsRefusedAt all (length h)
refused_at h all e legal not p at =
    let front : take (length h) all ≡ h = ap (take (length h)) (sym p.1) ∙ take-append_seam h p.0 in
    let one : (x : EntryData) → slice_get all (length h) ≡ Some x → e ≡ x = λ x is. let both : Some e ≡ Some x = at ∙ is in cc both in
    record {
      within = slice_get_within all (length h) e (sym at);
      legal = subst Legal (sym front) legal;
      refused = λ x is ok. not (subst (λ l. MayFollow l e) front (subst (λ y. MayFollow (take (length h) all) y) (sym (one x is)) ok));
    }

pub refused : (rows : Option (List EntryData)) (h : List EntryData) (n : ℕ) (e : EntryData) → n ≡ length h → Legal h → ¬ (MayFollow h e) → IfSome rows (λ all. Some e ≡ slice_get all n) → IfSome rows (λ all. IsPrefix h all → IsRefusedAt all n)
refused None h n e is legal not at = tt
refused (Some all) h n e is legal not at = λ p. subst (IsRefusedAt all) (sym is) (refused_at h all e legal not p (subst (λ k. Some e ≡ slice_get all k) is at))

pub none_yet : (rows : Option (List EntryData)) (h : List EntryData) → h ≡ [] → IfSome rows (λ all. IsPrefix h all)
none_yet None h none = tt
none_yet (Some all) h none = (all, ap (λ l. l ++ all) none)

-- at the end of the rows they are the history
pub read_all : (rows now : Option (List EntryData)) (h end : List EntryData) → IfSome rows (λ all. IsPrefix h all) → now ≡ rows → (end ≡ h) × IfSome now (λ all. IsPrefix h all → all ≡ h) → IfSome rows (λ all. all ≡ end)
read_all None now h end begins same ended = tt
read_all (Some all) now h end begins same ended =
    let last : IsPrefix h all → all ≡ h = subst (λ (r : Option (List EntryData)). IfSome r (λ (l : List EntryData). IsPrefix h l → l ≡ h)) same ended.1 in
    last begins ∙ sym ended.0

-- a fault that is handed on is of no keeper that never fails
pub never_err : {X Y : Type 0} (now : Type 0) (e : OpenFault) → NeverFaults {X = X} now (Err e) → NeverFaults {X = Y} now (Err e)
never_err now e n = record { still = n.still; no_fault = λ is. n.no_fault (let same : e ≡ faults.KeeperFault = cc is in ap Err same) }
