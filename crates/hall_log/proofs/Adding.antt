-- The exchange that adds an entry keeps the rule of the log.
use Rattle.std.proofs.Common.{◌≡◌, ℕ, ◌+◌, ◌<◌, ◌==◌, Bool, true, false, List, [], ◌∷◌, ◌++◌, length, refl, ap, sym, subst, arith, inl, length-append, None}
use Rattle.std.proofs.lemmas.List.{append-nil}
use Rattle.std.proofs.lemmas.Bool.Decides.{nat_tests}
use mathlib.Core.List.{IsPrefix}
use prog.Atomic.{either}
use Rattle.logbook.specs.Pages.{Cell, cell, keeps, no_nib, step, Moves, Goes}
use Rattle.edit_entries.specs.Entries.{EntryData, EntryIsInRange}
use Rattle.hall_log.specs.Histories.{IsHistory, MayFollow}
use Rattle.hall_log.specs.Logs.{IsKeptLog, Adds}
use Rattle.hall_log.proofs.HistoryLemmas.{history_push}
use Rattle.hall_log.proofs.Prefixes.{prefix_whole}

abbrev pub shown : List EntryData → List EntryData
shown log = []

abbrev pub moved : List EntryData → List EntryData → ℕ → Type 0
moved xs ys n = Unit {0}

adds_goes : (log v : List EntryData) (e : EntryData) (old : ℕ) → length v ≡ old → MayFollow v e → EntryIsInRange e → IsHistory log → IsPrefix v log
    → (b : Bool) → (length log == old) ≡ b
    → Goes IsKeptLog shown moved 0 (v, (no_nib, None)) (λ n. either (n == old) (old + 1) n) (Adds (step 0 old (old + 1) e) (v, (no_nib, None))) ((length log, true) ∷ (0, true) ∷ []) log
adds_goes log v e old len may range history pre true is =
    let here : length log ≡ old = grind (arith, nat_tests) in
    let same : v ≡ log = prefix_whole v log pre (omega arith) in
    let longer : IsHistory (log ++ e ∷ []) = history_push log e history (subst (λ l. MayFollow l e) same may) range in
    let n : either (length log == old) (old + 1) (length log) ≡ length (log ++ e ∷ []) = rw is (omega (arith, length-append log (e ∷ []))) in (
      keeps,
      e ∷ [],
      None,
      tt,
      record { words = ap (λ (k : ℕ). (k, true) ∷ (0, true) ∷ []) n; history = longer },
      inl (refl, refl),
      rw is (ap (λ w. w ++ e ∷ []) (sym same), longer),
    )
adds_goes log v e old len may range history pre false is =
    let all : log ++ [] ≡ log = append-nil log in
    let whole : IsHistory (log ++ []) = subst IsHistory (sym all) history in
    let n : either (length log == old) (old + 1) (length log) ≡ length (log ++ []) = rw is (ap length (sym all)) in (
      keeps,
      [],
      None,
      tt,
      record { words = ap (λ (k : ℕ). (k, true) ∷ (0, true) ∷ []) n; history = whole },
      inl (refl, refl),
      rw is (ap length all, whole),
    )

-- whatever the log is, the exchange adds the entry to all that was seen, or finds that the list is
-- longer
pub adds_moves : (v : List EntryData) (e : EntryData) (old : ℕ) → length v ≡ old → MayFollow v e → EntryIsInRange e
    → Moves IsKeptLog shown moved 0 (v, (no_nib, None)) (λ n. either (n == old) (old + 1) n) (Adds (step 0 old (old + 1) e) (v, (no_nib, None)))
adds_moves v e old len may range cs log kept pre away =
    let P : List Cell → Type 0 = λ c. (0 < length c) × ((cell c 0).1 ≡ true) × Goes IsKeptLog shown moved 0 (v, (no_nib, None)) (λ n. either (n == old) (old + 1) n) (Adds (step 0 old (old + 1) e) (v, (no_nib, None))) c log in
    subst P (sym kept.words) (omega arith, refl, adds_goes log v e old len may range kept.history pre (length log == old) refl)
