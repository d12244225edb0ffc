-- Seats, one more at a time, as a hall closes.
use Rattle.std.proofs.Common.{◌≡◌, ℕ, ◌≤◌, ◌<◌, ◌+◌, ◌-◌, ◌*◌, ◌^◌, ◌&&◌, Bool, true, false, List, [], ◌∷◌, length, map, Option, Some, None, IfSome, MatchBool, refl, ap, sym, ◌∙◌, subst, inl, inr, arith}
use Rattle.std.specs.List.{sum_by, sum}
use Rattle.std.proofs.lemmas.List.Sums.{sum_by-cons, sum-map}
use Rattle.std.proofs.lemmas.List.Elements.{All-cons, All-nil, All-weaker}
use mathlib.Core.List.{IsPrefix}
use Rattle.edit_entries.specs.Entries.{EntryData}
use Rattle.edit_rules.specs.Verdicts.{Legal}
use Rattle.geda_defs.specs.Causes.{HasRisen}
use Rattle.hall_log.proofs.Prefixes.{prefix_trans}
use Rattle.hall_core.specs.Seats.{SeatData}
use Rattle.hall_core.specs.Pens.{IsPen, rows_of, faults_of}
use Rattle.hall_core.specs.Closings.{IsSettled, Settles, HoldsSeats, Closes}

pub none_settled : (listed : List EntryData) → Settles listed true [] []
none_settled listed = (record { count = refl; seen = refl; losses = refl }, All-nil (λ (t : SeatData). IsPrefix t.seen listed))

settled_cons : (s t : SeatData) (ss ts : List SeatData) → t.seen ≡ s.seen → t.losses ≡ s.losses → IsSettled ss ts → IsSettled (s ∷ ss) (t ∷ ts)
settled_cons s t ss ts seen losses rest =
    record {
      count = let c = rest.count in omega (arith, c);
      seen = cc (seen, rest.seen);
      losses = cc (losses, rest.losses);
    }

pub settles_cons : (listed : List EntryData) (s t : SeatData) (ss ts : List SeatData) (held others : Bool) → t.seen ≡ s.seen → t.losses ≡ s.losses
    → MatchBool held (IsPrefix t.seen listed) (HasRisen s.refusals t.refusals) → Settles listed others ss ts → Settles listed (held && others) (s ∷ ss) (t ∷ ts)
settles_cons listed s t ss ts true true seen losses this rest = (settled_cons s t ss ts seen losses rest.0, All-cons (λ (u : SeatData). IsPrefix u.seen listed) t ts this rest.1)
settles_cons listed s t ss ts true false seen losses this rest = (settled_cons s t ss ts seen losses rest.0, inr rest.1)
settles_cons listed s t ss ts false true seen losses this rest = (settled_cons s t ss ts seen losses rest.0, inl this)
settles_cons listed s t ss ts false false seen losses this rest = (settled_cons s t ss ts seen losses rest.0, inl this)

-- what the seats hold, what they gave and what all seats gave make up all allowances
pub held_cons : (amount loss total seats : ℕ) (s : SeatData) (ss : List SeatData) → s.losses ≡ loss → loss ≤ 4294967295
    → (amount + (4294967295 - loss)) + length ss * 4294967295 + total ≡ seats * 4294967295 + sum_by (λ u. u.losses) ss
    → amount + length (s ∷ ss) * 4294967295 + total ≡ seats * 4294967295 + sum_by (λ u. u.losses) (s ∷ ss)
held_cons amount loss total seats s ss is low rest =
    let c = sum_by-cons (λ (u : SeatData). u.losses) s ss in omega (arith, c, is, low, rest)

same_sum : (ss ts : List SeatData) → map (λ t. t.losses) ts ≡ map (λ s. s.losses) ss → sum_by (λ t. t.losses) ts ≡ sum_by (λ s. s.losses) ss
same_sum ss ts same = sym (sum-map (λ (u : SeatData). u.losses) ts) ∙ (ap sum same ∙ sum-map (λ (u : SeatData). u.losses) ss)

holds_told : (rows : Option (List EntryData)) (listed history : List EntryData) (held : Bool) (ss ts : List SeatData) → IfSome rows (λ all. all ≡ history) → IsPrefix listed history
    → Settles listed held ss ts → HoldsSeats rows held ss ts
holds_told rows listed history false ss ts kept begins settled = settled.1
holds_told None listed history true ss ts kept begins settled = tt
holds_told (Some all) listed history true ss ts kept begins settled =
    All-weaker (λ (t : SeatData). IsPrefix t.seen listed) (λ (t : SeatData). IsPrefix t.seen all) (λ t p. subst (λ l. IsPrefix t.seen l) (sym kept) (prefix_trans t.seen listed history p begins)) ts settled.1

settled_of : (listed : List EntryData) (held : Bool) (ss ts : List SeatData) → Settles listed held ss ts → IsSettled ss ts
settled_of listed true ss ts s = s.0
settled_of listed false ss ts s = s.0

legal_told : (rows : Option (List EntryData)) (history : List EntryData) → IfSome rows (λ all. all ≡ history) → Legal history → IfSome rows (λ all. Legal all)
legal_told None history kept legal = tt
legal_told (Some all) history kept legal = subst Legal (sym kept) legal

pub closes : (rows : Option (List EntryData)) (listed history : List EntryData) (held : Bool) (ss ts : List SeatData) (faults seats total : ℕ)
    → IfSome rows (λ all. all ≡ history) → Legal history → IsPrefix listed history → Settles listed held ss ts → total ≤ faults
    → (length ss ≡ seats → length ss * 4294967295 + total ≡ seats * 4294967295 + sum_by (λ s. s.losses) ss)
    → Closes rows faults seats held ss ts
closes rows listed history held ss ts faults seats total kept legal begins settled bound sums =
    let s = settled_of listed held ss ts settled in
    record {
      legal = legal_told rows history kept legal;
      holds = holds_told rows listed history held ss ts kept begins settled;
      settled = s;
      losses = λ all. let n = sums all in let m = same_sum ss ts s.losses in let e = ap (λ k. k * 4294967295) all in omega (arith, n, m, e, bound);
    }

pub closes_of : {K : Type 0} (rows : K → Option (List EntryData)) (faults : K → ℕ) (keeper : Option K) (k : K) (listed history : List EntryData) (held : Bool) (ss ts : List SeatData) (seats total : ℕ)
    → keeper ≡ Some k → IfSome (rows_of rows keeper) (λ all. all ≡ history) → Legal history → IsPrefix listed history → Settles listed held ss ts → total ≤ faults_of faults total keeper
    → (length ss ≡ seats → length ss * 4294967295 + total ≡ seats * 4294967295 + sum_by (λ s. s.losses) ss)
    → Closes (rows k) (faults k) seats held ss ts
closes_of {K} rows faults keeper k listed history held ss ts seats total there kept legal begins settled bound sums =
    closes (rows k) listed history held ss ts (faults k) seats total (subst (λ (o : Option K). IfSome (rows_of rows o) (λ all. all ≡ history)) there kept) legal begins settled
    (subst (λ (o : Option K). total ≤ faults_of faults total o) there bound) sums

-- a pen whose keeper was handed back
no_keeper : (history : List EntryData) (total : ℕ) → IsPen history None total total
no_keeper history total = record { kept = tt; bound = omega arith }

pub closed_pen : {K : Type 0} (rows : K → Option (List EntryData)) (faults : K → ℕ) (keeper : Option K) (history : List EntryData) (total : ℕ) → keeper ≡ None
    → IsPen history (rows_of rows keeper) (faults_of faults total keeper) total
closed_pen {K} rows faults keeper history total none = subst (λ (o : Option K). IsPen history (rows_of rows o) (faults_of faults total o) total) (sym none) (no_keeper history total)

-- one more loss is covered by a count that rose
pub covered : (total total' faults : ℕ) → HasRisen total faults → total' ≤ total + 1 → total' < 2 ^ 38 → total' ≤ faults
covered total total' faults rose le low = grind (arith, rose, le, low)

pub rose_total : (total before faults : ℕ) → total ≤ before → HasRisen before faults → HasRisen total faults
rose_total total before faults le rose = grind (arith, rose, le)
