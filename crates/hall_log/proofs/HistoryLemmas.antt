-- Histories, and the entries that may follow them.
use Rattle.std.proofs.Common.{◌≡◌, ℕ, zero, suc, ◌≤◌, ◌<◌, ◌+◌, List, [], ◌∷◌, ◌++◌, length, take, Some, refl, ap, subst, arith}
use Rattle.std.specs.List.{slice_get}
use Rattle.std.proofs.lemmas.List.{length-take-le}
use Rattle.std.proofs.lemmas.List.Elements.{All-push}
use Rattle.edit_entries.specs.Entries.{EntryData, EntryIsInRange}
use Rattle.edit_rules.specs.Histories.{changes}
use Rattle.edit_rules.specs.Verdicts.{Legal}
use Rattle.edit_rules.proofs.Accepting.{accepted}
use Rattle.edit_rules.proofs.LongerHistories.{legal_push}
use Rattle.hall_log.specs.Histories.{IsHistory, MayFollow}

-- a history grows by an entry that may follow
pub history_push : (h : List EntryData) (e : EntryData) → IsHistory h → MayFollow h e → EntryIsInRange e → IsHistory (h ++ e ∷ [])
history_push h e history may range = record {
  legal = legal_push h e history.legal may.is;
  in_range = All-push EntryIsInRange h e history.in_range range;
}

pub follow_short : (h : List EntryData) (e : EntryData) → MayFollow h e → length h < 200000
follow_short h e may = (accepted h e (record { items = changes h e.edit }) may.is).short

last_of : (x : EntryData) (xs : List EntryData) → (e : EntryData) × (slice_get (x ∷ xs) (length xs) ≡ Some e)
last_of x [] = (x, refl)
last_of x (y ∷ ys) = last_of y ys

-- a history has at most so many entries
pub history_short : (h : List EntryData) → IsHistory h → length h ≤ 200000
history_short [] history = omega arith
history_short (x ∷ xs) history =
    let last = last_of x xs in
    let may : MayFollow (take (length xs) (x ∷ xs)) last.0 = record { is = history.legal (length xs) last.0 last.1 } in
    let short = follow_short (take (length xs) (x ∷ xs)) last.0 may in
    let len = length-take-le (length xs) (x ∷ xs) (omega arith) in
    omega (arith, short, len)

take_next : (h : List EntryData) (k : ℕ) (e : EntryData) → slice_get h k ≡ Some e → take (suc k) h ≡ take k h ++ e ∷ []
take_next [] k e at = absurd (cc at)
take_next (x ∷ h) zero e at = let same : x ≡ e = cc at in ap (λ y. y ∷ []) same
take_next (x ∷ h) (suc k) e at = ap (λ l. x ∷ l) (take_next h k e at)

-- one more entry
pub take_one_more : (h : List EntryData) (k : ℕ) (e : EntryData) → slice_get h k ≡ Some e → take (k + 1) h ≡ take k h ++ e ∷ []
take_one_more h k e at = let one : suc k ≡ k + 1 = omega arith in subst (λ n. take n h ≡ take k h ++ e ∷ []) one (take_next h k e at)

-- an entry of a legal history was accepted after those before it
pub follows_at : (h : List EntryData) (k : ℕ) (e : EntryData) → Legal h → slice_get h k ≡ Some e → MayFollow (take k h) e
follows_at h k e legal at = record { is = legal k e at }
